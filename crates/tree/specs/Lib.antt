pub mod Sides
pub mod Split
pub mod Trees
pub mod Laws
pub mod Answers

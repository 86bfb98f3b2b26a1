pub mod Behind
pub mod Layered
pub mod Grouping
pub mod Masking
pub mod Table

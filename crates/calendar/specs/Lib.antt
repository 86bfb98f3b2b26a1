pub mod Small
pub mod Published
pub mod Forests

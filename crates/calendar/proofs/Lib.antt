pub mod Sizes
pub mod Rows
pub mod Hills
pub mod PathAnswers

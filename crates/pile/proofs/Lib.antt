pub mod Answered
pub mod Lasts
mod Heads

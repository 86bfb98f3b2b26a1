pub mod Absorbed
pub mod Filled
pub mod Padding
pub mod Places
pub mod Steps
pub mod Words

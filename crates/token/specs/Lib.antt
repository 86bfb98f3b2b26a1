pub mod Held
pub mod Copied

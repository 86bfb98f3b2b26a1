pub mod Blocks
pub mod Hashes
pub mod Messages
pub mod Text

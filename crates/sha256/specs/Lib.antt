pub mod Words
pub mod Constants
pub mod Sha256
pub mod Tail
pub mod Keyed

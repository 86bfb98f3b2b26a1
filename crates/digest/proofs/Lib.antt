pub mod Blocks
pub mod Chunks
pub mod Copied
pub mod Hexadecimal
pub mod Made
pub mod SameDigest
pub mod TwoParts

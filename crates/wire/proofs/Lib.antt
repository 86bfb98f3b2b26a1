pub mod Numbers
pub mod Digests
pub mod Parts
pub mod Written
pub mod Firsts

pub mod Content
pub mod Parts
pub mod Faults
pub mod Laws

pub mod Entries
pub mod Faults
pub mod Reading
pub mod Printing
pub mod Laws

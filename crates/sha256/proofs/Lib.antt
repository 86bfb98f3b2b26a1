pub mod Roots
pub mod Steps
pub mod Ends
pub mod Absorbing
pub mod Choice
pub mod Turns
pub mod Keys

pub mod Derived
pub mod Steps

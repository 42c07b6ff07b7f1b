pub mod Steps
pub mod Split
pub mod Unique
pub mod Good
pub mod Short

pub mod Passed
pub mod Kept

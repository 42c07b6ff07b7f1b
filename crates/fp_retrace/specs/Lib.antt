pub mod Standing
pub mod Proving

pub mod Extending
pub mod Measured
pub mod Readying
pub mod Rows
pub mod Stating

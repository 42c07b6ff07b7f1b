pub mod Sources
pub mod Generating

pub mod Names
pub mod Built
pub mod Builds
pub mod Elaborated
pub mod Held

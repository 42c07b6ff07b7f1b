pub mod Causes
pub mod Kinds
pub mod Read
pub mod Lines
pub mod Checks

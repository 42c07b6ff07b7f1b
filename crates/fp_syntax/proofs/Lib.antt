pub mod Single
pub mod Brief
pub mod Wording

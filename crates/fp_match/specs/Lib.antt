pub mod Instances
pub mod Walk

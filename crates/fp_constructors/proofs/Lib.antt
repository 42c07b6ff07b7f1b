pub mod Taking
pub mod Distinct

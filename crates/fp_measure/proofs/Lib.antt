pub mod Measuring
pub mod Generated
pub mod Tested

pub mod Usable
pub mod Given
pub mod Paired

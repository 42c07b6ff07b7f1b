pub mod Stood
pub mod Proved

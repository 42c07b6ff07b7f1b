pub mod Below
pub mod Each

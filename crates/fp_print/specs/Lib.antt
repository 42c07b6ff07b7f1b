pub mod Shapes
pub mod Names
pub mod Texts
pub mod Types
pub mod Numbers
pub mod Views

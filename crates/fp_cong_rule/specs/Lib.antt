pub mod Parts
pub mod Form
pub mod Reading

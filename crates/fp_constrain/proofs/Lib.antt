pub mod Sizes
pub mod Choices
pub mod Laid
pub mod Numbered
pub mod Drawn
pub mod Clashing

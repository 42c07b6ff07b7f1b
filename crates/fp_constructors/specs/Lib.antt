pub mod Forms
pub mod Naming
pub mod Needed
pub mod Shapes
pub mod Answers

pub mod Shapes
pub mod Values
pub mod Answers
pub mod Exhaustion

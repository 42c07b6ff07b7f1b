pub mod Helpers
pub mod Heads
pub mod Calls
pub mod Relations
pub mod Defining
pub mod Statements

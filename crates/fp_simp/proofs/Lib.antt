pub mod Steps
pub mod Settled
pub mod Tasks
pub mod Cells
pub mod Alike

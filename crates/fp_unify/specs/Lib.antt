pub mod Facts
pub mod Cells
pub mod Settled
pub mod Solved
pub mod Nodes
pub mod Candidates
pub mod Naming
pub mod General

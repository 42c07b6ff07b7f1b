pub mod Outcomes
pub mod Equations
pub mod Checked
pub mod Sets
pub mod Gives
pub mod Untested

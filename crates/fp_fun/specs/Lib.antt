pub mod Grids
pub mod Named
pub mod Ready

pub mod Lasts
pub mod Placed
pub mod Laws
pub mod Bound

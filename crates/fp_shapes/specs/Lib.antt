pub mod Binders
pub mod Joined
pub mod Tuples
pub mod Sums

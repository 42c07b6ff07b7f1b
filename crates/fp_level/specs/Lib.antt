pub mod Ranks
pub mod Result
pub mod Counts

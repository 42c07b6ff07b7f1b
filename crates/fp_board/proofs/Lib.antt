pub mod Merges
pub mod Ends
pub mod Crossing
pub mod Shares

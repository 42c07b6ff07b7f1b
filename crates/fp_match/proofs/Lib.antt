pub mod Untyped
pub mod Exact
pub mod TypePairs
pub mod TermPairs
pub mod Matching
pub mod Unique
pub mod Own

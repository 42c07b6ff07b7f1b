pub mod Negated
pub mod False
pub mod Matched
pub mod Ways
pub mod Joined

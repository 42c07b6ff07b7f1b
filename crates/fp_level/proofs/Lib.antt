pub mod Going
pub mod Fit
pub mod Capped
pub mod Joined
pub mod Mappings

pub mod Settled
pub mod Filled

pub mod Loose
mod Later
mod Sizes
pub mod Unused
mod Known

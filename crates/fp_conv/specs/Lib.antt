pub mod Places
pub mod Rewriting
pub mod Equations
pub mod Beta
pub mod Passes
pub mod Normal
pub mod Outermost

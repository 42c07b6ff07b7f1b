pub mod Forms
pub mod Derived
pub mod Steps
pub mod Schemas
pub mod Equations

pub mod Forms
pub mod Schemas
pub mod Lemmas
pub mod Quantified
pub mod Existence

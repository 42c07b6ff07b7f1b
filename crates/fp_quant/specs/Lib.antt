pub mod Universal
pub mod Meanings
pub mod Existential
pub mod Existence
pub mod Extensional

pub mod Fillings
pub mod Known
pub mod Shown
pub mod Effect
pub mod Need
pub mod Machine
pub mod Front

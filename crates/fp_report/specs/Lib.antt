pub mod Texts
pub mod Items
pub mod Orders
pub mod Matrices
pub mod Reasons

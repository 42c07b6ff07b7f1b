pub mod Tables
pub mod Merged
pub mod Ordered
pub mod Generality
pub mod Solutions
pub mod Named

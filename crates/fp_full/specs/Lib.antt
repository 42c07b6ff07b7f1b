pub mod Tokens
pub mod Grammar
pub mod Texts
pub mod Printing
pub mod Machine
pub mod Views
pub mod Reads

pub mod Symbols
pub mod Trees
pub mod Written
pub mod Machine
pub mod TypeViews
pub mod Views

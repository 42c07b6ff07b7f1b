pub mod Placing
pub mod Growing
pub mod Keeping
pub mod Marks
pub mod Reading
pub mod Returning
pub mod Sounding

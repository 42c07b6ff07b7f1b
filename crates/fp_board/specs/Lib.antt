pub mod Agreement
pub mod Answers
pub mod Closing
pub mod Codes
pub mod Seats

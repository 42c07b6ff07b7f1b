pub mod Reading
pub mod Outcome
pub mod Answers
pub mod Report
pub mod Steps

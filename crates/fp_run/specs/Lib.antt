pub mod Words
pub mod Report
pub mod Runs
pub mod Files

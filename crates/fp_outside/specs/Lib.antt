pub mod Causes
pub mod Held
pub mod Memory
pub mod Opened
pub mod Reading
pub mod Sink
pub mod View

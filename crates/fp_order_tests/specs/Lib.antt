pub mod Ack
pub mod Greatest

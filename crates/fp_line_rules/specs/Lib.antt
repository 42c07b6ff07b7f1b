pub mod Standing
pub mod Rules
pub mod Table

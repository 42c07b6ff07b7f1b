pub mod SmallSignature

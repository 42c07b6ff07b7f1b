pub mod AckFacts
pub mod GreatestFacts

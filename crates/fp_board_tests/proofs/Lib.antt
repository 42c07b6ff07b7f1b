pub mod AckFacts

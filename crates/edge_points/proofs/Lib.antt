pub mod BetweenSamples
pub mod Reciprocals

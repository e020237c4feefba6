pub mod Chains
pub mod Walks
pub mod Fronts
pub mod Labelling
pub mod Walked

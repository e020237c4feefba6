pub mod Edges
pub mod Active

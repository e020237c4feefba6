pub mod Spans
pub mod Nodes
pub mod Touched

pub mod Decider
pub mod Rows

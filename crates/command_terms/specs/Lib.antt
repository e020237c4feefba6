pub mod Volumes
pub mod Outcome

pub mod Together
pub mod Padded

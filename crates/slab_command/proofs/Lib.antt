pub mod Samples
pub mod InPad
pub mod Outputs
pub mod Served
pub mod Given

pub mod Cases
pub mod Packing

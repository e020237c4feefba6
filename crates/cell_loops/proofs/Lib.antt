pub mod Shapes
pub mod Counted
pub mod Cases

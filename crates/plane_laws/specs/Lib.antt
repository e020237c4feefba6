pub mod Lines
pub mod Sides

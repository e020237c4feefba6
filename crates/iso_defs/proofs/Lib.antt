pub mod Points
pub mod Coordinates
pub mod Ranges
pub mod Means

pub mod Indices
pub mod Worked
pub mod VolumeLaws
pub mod Levels
pub mod WholePart

pub mod Unpadded
pub mod Rows
pub mod Held

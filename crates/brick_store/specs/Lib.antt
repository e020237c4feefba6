pub mod Holding
pub mod Copies
pub mod Gathered
pub mod Next
pub mod Rows
pub mod Boxes
pub mod Parts
pub mod Kept

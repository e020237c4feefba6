pub mod Cells
pub mod Signs

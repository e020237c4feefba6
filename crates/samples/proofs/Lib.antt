pub mod Cells
pub mod LeastAbove
pub mod Lists
pub mod Rows

pub mod PadCells
pub mod PadRows
pub mod Parts
pub mod SlabRows

pub mod Blocks
pub mod Lines
pub mod Origins
pub mod Padded
pub mod RowLines
pub mod Triangles

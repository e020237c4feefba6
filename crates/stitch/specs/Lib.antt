pub mod Joining
pub mod Origins
pub mod Asked
pub mod Kept
pub mod Recent
pub mod Cells
pub mod Rooms

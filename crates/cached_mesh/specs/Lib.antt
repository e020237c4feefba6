pub mod Kept
pub mod Texts
pub mod Slices
pub mod Held
pub mod Writers
pub mod Rooms

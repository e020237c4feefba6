pub mod Chain
pub mod Counting
pub mod Heads
pub mod Moved
pub mod Pieces
pub mod Tables

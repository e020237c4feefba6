mod PackedLists
pub mod Widths

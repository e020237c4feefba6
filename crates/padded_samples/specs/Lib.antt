pub mod Pads
pub mod PaddedSlabs

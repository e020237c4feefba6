pub mod Rings
pub mod Arcs

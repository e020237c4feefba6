pub mod Planes
pub mod Texts
pub mod Drawn

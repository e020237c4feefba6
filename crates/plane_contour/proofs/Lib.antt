pub mod Planes
pub mod Walks
pub mod Scanned
pub mod Texts

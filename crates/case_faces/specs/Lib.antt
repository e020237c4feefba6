pub mod Faces
pub mod Fans

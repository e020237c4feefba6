pub mod Runs
pub mod WindowSizes
pub mod Cropping
pub mod Meshes
pub mod Viewing

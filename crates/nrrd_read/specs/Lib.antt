pub mod Files
pub mod Nrrd
pub mod Checks
pub mod Fields
pub mod Scanning

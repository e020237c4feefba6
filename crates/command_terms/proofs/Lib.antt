pub mod Told
pub mod Passed
pub mod ReadVolumes
pub mod Statuses
pub mod Converted

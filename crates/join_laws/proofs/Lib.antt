pub mod PartTexts
pub mod SlabLines
pub mod PartSlabs
pub mod Joined
pub mod GivenFiles

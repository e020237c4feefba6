pub mod Cache
pub mod Filing
pub mod Offering
pub mod Economy

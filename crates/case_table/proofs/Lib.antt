pub mod Flags
pub mod Joined
pub mod Masked
pub mod Numbering
pub mod Short
pub mod Table
pub mod Values

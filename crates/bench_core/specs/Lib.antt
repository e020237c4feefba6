pub mod Machine
pub mod Texts
pub mod Surface
pub mod History
pub mod Keeping
pub mod Windows

pub mod Signs
pub mod Cases
pub mod Places
pub mod Ends
pub mod Kept
pub mod Lists
pub mod Parts
pub mod Counted

pub mod EntryRuns
pub mod LastCase
pub mod Ascending
pub mod Waits
pub mod Names
pub mod Filled
pub mod Signing
pub mod Counted

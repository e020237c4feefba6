pub mod NextWholes
pub mod RowLines
pub mod Settled
pub mod Texts

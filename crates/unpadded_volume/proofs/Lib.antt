pub mod Insides
pub mod InnerSamples
pub mod RowsPut
pub mod ReadAgain
pub mod RowLines
pub mod RowRuns
pub mod Pieces
pub mod Columns

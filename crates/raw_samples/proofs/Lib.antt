pub mod SampleLaws
pub mod Parts
pub mod ReadRuns

pub mod Prefixes
pub mod OneOption
pub mod OtherRequests
pub mod PointsWords

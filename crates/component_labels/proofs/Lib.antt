pub mod WalkLaws
pub mod LeastLaws
pub mod PlaceLaws
pub mod MeetLaws
pub mod RangeLaws
pub mod AddedLaws

pub mod RingLaws
pub mod ArcLaws

pub mod MarkLaws
pub mod LooseLaws
pub mod VerdictLaws

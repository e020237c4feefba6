pub mod HeaderLaws
pub mod Folding
pub mod Agreeing

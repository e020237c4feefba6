pub mod Corners
pub mod Answers
pub mod Obj
pub mod SeenObj
pub mod Plain
pub mod Ply
pub mod SeenElements
pub mod SeenPly

pub mod AnswerLaws
pub mod ObjLaws
pub mod Names
pub mod PlyLines
pub mod PlyBody
pub mod PlyFolding
pub mod PlyCounts
mod Rows
pub mod PlainLaws
pub mod PlainLines

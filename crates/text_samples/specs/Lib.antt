pub mod Answers
pub mod Text
pub mod Hex
pub mod HexScan
pub mod Gathered

pub mod Corners
pub mod FanTables
pub mod Tables

pub mod FilePoints
pub mod Given
pub mod PointLines
pub mod Placing
pub mod RowPoints
pub mod Waiting

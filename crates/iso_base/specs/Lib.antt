pub mod Points
pub mod SampleBytes
pub mod Stored
pub mod Triangles
pub mod Volume

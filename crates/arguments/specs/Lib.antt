pub mod Help
pub mod Words

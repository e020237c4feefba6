pub mod Places
pub mod LineLaws
pub mod WordLaws
pub mod Written

pub mod Untouched
pub mod InRange

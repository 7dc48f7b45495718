pub mod Example
pub mod Drained

pub mod Ready
pub mod Writes

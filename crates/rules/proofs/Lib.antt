pub mod Starred
pub mod Faults

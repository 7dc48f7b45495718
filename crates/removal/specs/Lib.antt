pub mod Settling
pub mod Dropping

pub mod Taking
pub mod Driven

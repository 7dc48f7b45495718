pub mod Cutting
pub mod Whole
pub mod Buffers

pub mod Positions
pub mod Words
pub mod Numbering

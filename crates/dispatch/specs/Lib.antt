pub mod Round
pub mod Searching
pub mod Returns

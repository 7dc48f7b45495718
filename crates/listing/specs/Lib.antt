pub mod Run
pub mod ListingA

pub mod Choice
pub mod Ranges
pub mod Lists
pub mod Cases
pub mod Splice

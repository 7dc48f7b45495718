pub mod Field
pub mod Change
pub mod Layout
pub mod Words
pub mod Numbering
pub mod Status

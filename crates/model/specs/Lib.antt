pub mod Model
pub mod Vectors
pub mod Beginning
pub mod Close
pub mod Tests

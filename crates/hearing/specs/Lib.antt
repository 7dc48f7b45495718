pub mod Rolling
pub mod Hearing

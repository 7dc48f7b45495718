pub mod Tables
pub mod Held
pub mod Hears
pub mod Answers

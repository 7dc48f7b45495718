pub mod Unmoved
pub mod Causes
pub mod Held
pub mod There
pub mod Answers
pub mod Hears

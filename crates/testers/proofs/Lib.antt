pub mod Along
pub mod Judged
pub mod Gapped
pub mod Written
pub mod Echo
pub mod Sample
pub mod WrongMachines

pub mod Call
pub mod Faults
pub mod Run
pub mod Running

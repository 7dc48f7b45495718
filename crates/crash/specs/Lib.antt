pub mod Crashing

pub mod Agreement
pub mod Beyond
pub mod Ceiled
pub mod Citable
pub mod Claims

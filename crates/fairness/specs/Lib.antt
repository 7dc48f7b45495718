pub mod Leaves
pub mod Fair
pub mod InTurn
pub mod Settling

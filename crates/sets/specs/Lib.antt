pub mod Ready
pub mod Blocks
pub mod Desks
pub mod Gathering
pub mod Going
pub mod Returns

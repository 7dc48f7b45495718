pub mod At
pub mod Mask
pub mod Conflict

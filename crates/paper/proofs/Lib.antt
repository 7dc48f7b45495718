pub mod Longer
pub mod Eventually
pub mod Emptied
pub mod Fates
pub mod Theorems
pub mod AllButK

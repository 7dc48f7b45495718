pub mod Sets
pub mod Would
pub mod Dispatch
pub mod Made

pub mod Walks
pub mod LentPlaces

pub mod Lists
pub mod Shown
pub mod Told
pub mod GoingOut
pub mod Arriving
pub mod Reels
pub mod Blamed

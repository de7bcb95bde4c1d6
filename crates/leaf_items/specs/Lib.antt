pub mod Items
pub mod Kept
pub mod Lists
pub mod Openings

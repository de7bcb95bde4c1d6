pub mod Lists
pub mod ListsKept
pub mod Seats

pub mod Journals
pub mod Versions

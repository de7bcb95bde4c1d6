pub mod BookKept
pub mod ListRows
pub mod Owners

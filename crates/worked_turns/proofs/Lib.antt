pub mod Home
pub mod Rows
pub mod Sent

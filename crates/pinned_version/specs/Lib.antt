pub mod Books
pub mod Pinned
pub mod Rows

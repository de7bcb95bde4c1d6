pub mod Rows
pub mod Texts
pub mod Rules
pub mod Turns
pub mod Walks
pub mod Claims

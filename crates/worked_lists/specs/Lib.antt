pub mod Layouts
pub mod Workers

pub mod Clouds
pub mod Fields
pub mod Formats
pub mod Reading
pub mod Records
pub mod Refusals
pub mod Tables

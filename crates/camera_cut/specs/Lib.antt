pub mod Descents
pub mod Fields
pub mod Kept
pub mod Outlines
pub mod Showings
pub mod Walks

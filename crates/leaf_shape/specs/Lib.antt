pub mod Kept
pub mod Openings
pub mod Shapes
pub mod Tables

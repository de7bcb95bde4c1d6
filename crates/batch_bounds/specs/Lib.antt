pub mod Batches
pub mod Bounds
pub mod Stops

pub mod Batches
pub mod Cubes
pub mod Paths
pub mod Points
pub mod Refusals

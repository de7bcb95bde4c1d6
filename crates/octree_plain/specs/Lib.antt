pub mod Bounds
pub mod CellSets
pub mod Descent
pub mod Fitting
pub mod Listing
pub mod Sampling
pub mod Summary

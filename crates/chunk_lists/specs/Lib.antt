pub mod Keepers
pub mod Sweeps
pub mod Wipes
pub mod Knives

pub mod Hands
pub mod Parts

pub mod Adding
pub mod Kept
pub mod United
pub mod Counted
pub mod Cuts

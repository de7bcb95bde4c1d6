pub mod Leaves
pub mod Limits
pub mod Needs
pub mod Slots

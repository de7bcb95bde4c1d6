pub mod Laws
pub mod Nears
pub mod Order
pub mod Ready
pub mod Runs
pub mod Updates

pub mod Logs
pub mod Plans

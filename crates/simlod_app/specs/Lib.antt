pub mod Dues
pub mod Outcomes
pub mod Reads
pub mod RunFaults
pub mod Runs
pub mod Statuses

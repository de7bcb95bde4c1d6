pub mod Filings
pub mod Going
pub mod Sent
pub mod Shown
pub mod Starts
pub mod Walking
pub mod Worked

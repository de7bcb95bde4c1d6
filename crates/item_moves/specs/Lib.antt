pub mod Aimed
pub mod Homes
pub mod Late
pub mod Links
pub mod Opened
pub mod Settled

pub mod Commands
pub mod Forms
pub mod Jobs
pub mod Numbers
pub mod Options
pub mod Screens
pub mod Values

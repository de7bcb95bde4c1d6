pub mod Admissions
pub mod Records

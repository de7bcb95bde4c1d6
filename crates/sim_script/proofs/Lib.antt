pub mod Cuts
pub mod NumberLaws
pub mod WordLaws
pub mod ScheduleLaws

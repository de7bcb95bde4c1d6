pub mod BookLaws
pub mod PathOrderLaws
pub mod VersionLaws

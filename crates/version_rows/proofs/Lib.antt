mod Examples
pub mod StayLaws
pub mod VersionLaws

mod Examples
pub mod Keys
pub mod Merging
pub mod Passes
pub mod Readiness
pub mod Rising
pub mod RunLaws

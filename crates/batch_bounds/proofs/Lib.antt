mod Examples
pub mod AdmissionLaws
pub mod Counts
pub mod Cuts
pub mod EndLaws
pub mod Firsts
pub mod SearchLaws
pub mod StopLaws

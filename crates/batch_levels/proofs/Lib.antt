pub mod AddLaws
pub mod GrownLaws
pub mod LevelLaws
pub mod NodeRunLaws
pub mod ShownLaws
pub mod SpillLaws

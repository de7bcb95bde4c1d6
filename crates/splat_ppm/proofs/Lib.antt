pub mod CellMiddles
pub mod Lowered
pub mod SameItems
pub mod SamePoints
pub mod Shown
pub mod SpotLaws
pub mod WalkLaws

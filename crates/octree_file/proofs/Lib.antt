pub mod OrderLaws
pub mod PointLaws
pub mod SameFileLaws
pub mod SpellingLaws
pub mod VoxelLaws
pub mod WritingLaws

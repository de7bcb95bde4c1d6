pub mod NumberSets
pub mod PageLaws

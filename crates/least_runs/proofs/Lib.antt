pub mod JoiningLaws
pub mod MarkLaws
pub mod RunLaws
pub mod TableLaws

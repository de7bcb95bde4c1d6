pub mod BelowLaws
mod Examples
pub mod LevelLaws
pub mod LimitLaws
pub mod NeedLaws
pub mod SumLaws
pub mod TakenLaws

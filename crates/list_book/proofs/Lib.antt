pub mod FreshBooks
pub mod GrantLaws
pub mod OrderLaws
pub mod PlaceLaws
pub mod RowLaws
pub mod SoundLaws

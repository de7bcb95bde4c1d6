pub mod BirthLaws
pub mod GrantLaws

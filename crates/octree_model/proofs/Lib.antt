pub mod AscendingLaws
pub mod BagLaws
pub mod CountLaws
pub mod FilterLaws
mod Examples
pub mod HasLaws
pub mod LeafLaws
pub mod NumberLaws
pub mod OctreeLaws
pub mod OutlineLaws
pub mod SameBagLaws
pub mod ShapeLaws

pub mod GiveLaws
pub mod HeapLaws
pub mod Sets

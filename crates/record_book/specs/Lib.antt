pub mod BookKept
pub mod Books
pub mod KeptBatches
pub mod PublishedItems

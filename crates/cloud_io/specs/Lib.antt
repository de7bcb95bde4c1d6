pub mod Counts
pub mod Files
pub mod HeldFiles
pub mod HeldViews
pub mod SystemFiles
pub mod Whole

pub mod Endings
pub mod OpenFiles
pub mod Pieces
pub mod Prefixes
pub mod SystemReads

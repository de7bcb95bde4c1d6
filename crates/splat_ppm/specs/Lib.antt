pub mod Canvases
pub mod Lowering
pub mod Spots
pub mod Squares

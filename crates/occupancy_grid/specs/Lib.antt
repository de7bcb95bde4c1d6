pub mod Grids
pub mod Pages

pub mod Cameras
pub mod Cuts
pub mod Frames
pub mod Items
pub mod Pictures

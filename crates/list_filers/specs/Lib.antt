pub mod Cursors
pub mod Ways
pub mod Filers
pub mod Room
pub mod Rooms

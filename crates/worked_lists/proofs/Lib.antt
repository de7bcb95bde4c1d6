pub mod Evens
pub mod Laid
pub mod Laying
pub mod Left
pub mod Sent

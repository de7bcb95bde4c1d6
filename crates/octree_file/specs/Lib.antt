pub mod Descent
pub mod Files
pub mod Order
pub mod Spelling

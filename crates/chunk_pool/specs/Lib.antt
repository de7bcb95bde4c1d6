pub mod Amounts
pub mod Heaps
pub mod Numbers

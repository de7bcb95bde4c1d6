pub mod WordRows
pub mod WordsKept

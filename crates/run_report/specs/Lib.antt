pub mod Faults
pub mod RefusedRows
pub mod Texts

pub mod Ledgers
pub mod Ruled
pub mod Tables
pub mod GuestMoves
pub mod OwnerMoves

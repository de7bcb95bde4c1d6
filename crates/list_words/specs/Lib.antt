pub mod Filing
pub mod Plain
pub mod PlainFilers
pub mod PlainGrants
pub mod PlainKept
pub mod PlainRooms
pub mod PlainRows
pub mod Store

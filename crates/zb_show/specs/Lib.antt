pub mod Names
pub mod Lines
pub mod Status
pub mod Show

pub mod Rows
pub mod Places
pub mod Earliest
pub mod Edits
pub mod Greatest

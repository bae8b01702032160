pub mod Versions
pub mod Kept

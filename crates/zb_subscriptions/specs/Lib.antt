pub mod Opened
pub mod Waiting

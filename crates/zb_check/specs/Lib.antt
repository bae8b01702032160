pub mod Notes
pub mod Pairs
pub mod Counts
pub mod Parts
pub mod Compensation
pub mod Finding
pub mod Checking

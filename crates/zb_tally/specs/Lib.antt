pub mod Counts
pub mod Summary
pub mod Served
pub mod Status

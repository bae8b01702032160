pub mod Taken
pub mod Line
pub mod Step

pub mod Elements
pub mod Faults

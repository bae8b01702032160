pub mod Behind
pub mod Making
pub mod Settled

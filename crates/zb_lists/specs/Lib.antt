pub mod Moments
pub mod Listed

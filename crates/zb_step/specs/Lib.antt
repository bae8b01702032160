pub mod Sound
pub mod Starting
pub mod Passing
pub mod Correlating

pub mod Stream
pub mod Cause
pub mod Clock
pub mod Devices

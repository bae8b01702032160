pub mod Disk
pub mod Cause
pub mod Kept
pub mod MomentLaws
pub mod Calls
pub mod Image
pub mod MemDisk

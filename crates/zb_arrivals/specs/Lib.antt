pub mod InOrder
pub mod Newer

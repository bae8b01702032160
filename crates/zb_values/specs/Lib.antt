pub mod Exits
pub mod Mapped
pub mod Opens

pub mod Course
pub mod Shows
pub mod Versions

pub mod Hours
pub mod Answer
pub mod Session
pub mod Serving

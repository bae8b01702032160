pub mod Messages
pub mod Named
pub mod Tables

pub mod Tellings
pub mod Views
pub mod May
pub mod History
pub mod Once
pub mod Keeps

pub mod Entries
pub mod History
pub mod Once
pub mod Tellings

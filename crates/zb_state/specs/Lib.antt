pub mod Changes
pub mod Alarms
pub mod Beginnings
pub mod Listing
pub mod Refusal
pub mod Sound
pub mod Starts
pub mod State

pub mod Change
pub mod Listing
pub mod Starters

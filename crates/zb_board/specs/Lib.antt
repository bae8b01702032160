pub mod BoardCode
pub mod Tallies
pub mod Kept
pub mod Indexed
pub mod Searches
pub mod Below

pub mod Places
pub mod PlacesAt
pub mod Links
pub mod Codes
pub mod TellsPlaces
pub mod IsGraph

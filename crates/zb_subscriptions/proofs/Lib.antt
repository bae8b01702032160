mod ListedLemmas
pub mod FindLemmas
mod OpenedLemmas
mod ListingLemmas
mod TakenLemmas

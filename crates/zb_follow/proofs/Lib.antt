pub mod ForcedLemmas
pub mod MakerLemmas
pub mod TurnLemmas
mod StartingLemmas

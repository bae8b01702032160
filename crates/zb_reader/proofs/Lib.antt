pub mod PointerLemmas
pub mod PlaceLemmas
pub mod SourceLemmas

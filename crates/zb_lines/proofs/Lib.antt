pub mod LineLemmas
pub mod ReaderLemmas
pub mod TakenLaws

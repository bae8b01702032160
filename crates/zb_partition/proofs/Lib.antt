pub mod ReadingLemmas
pub mod FrameLemmas
pub mod OpeningLemmas
pub mod WritingLemmas
pub mod LogLemmas
pub mod LedgerLaws
pub mod GroundLaws

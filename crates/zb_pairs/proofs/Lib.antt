pub mod FoundLemmas
pub mod PairLemmas
pub mod UnderLemmas

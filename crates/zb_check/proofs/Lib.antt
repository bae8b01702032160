pub mod LookLemmas
pub mod BehindLemmas
pub mod FaultLemmas
pub mod PairLemmas

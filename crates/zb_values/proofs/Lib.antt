pub mod FlowLemmas
pub mod UnseenLemmas
pub mod ExitLemmas
pub mod MappingLemmas
pub mod LastLemmas
pub mod AwaitedLemmas
pub mod OpeningLemmas

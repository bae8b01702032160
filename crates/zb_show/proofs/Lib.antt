pub mod EventLemmas
pub mod ShowLemmas

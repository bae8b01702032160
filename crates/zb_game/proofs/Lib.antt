pub mod BoardLemmas
pub mod ReadyLemmas

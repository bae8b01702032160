pub mod EditLemmas
pub mod OrderedLemmas
pub mod SplitLemmas
pub mod GreatestLemmas
pub mod KeptLemmas

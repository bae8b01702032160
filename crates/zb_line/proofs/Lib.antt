pub mod OrderLemmas
pub mod MoveLemmas
pub mod LevelLemmas
pub mod KeptLemmas

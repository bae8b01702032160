pub mod KeyLemmas
pub mod MessageLemmas
pub mod NamedLemmas

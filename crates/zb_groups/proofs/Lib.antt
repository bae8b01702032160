pub mod RowLemmas
pub mod EmptyingLemmas

pub mod RowLemmas
pub mod EarlierLaws

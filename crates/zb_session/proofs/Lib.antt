pub mod AnswerLemmas
pub mod ClockLemmas
pub mod ListLemmas
pub mod ResultLemmas
pub mod StreamLemmas
pub mod TurnLemmas
pub mod EndLemmas

pub mod KeptLaws
pub mod SendingLaws
pub mod AnswerLaws
pub mod TextLemmas
mod Worked

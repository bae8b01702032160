pub mod FlowLemmas
pub mod CountLemmas
pub mod HeldLemmas
pub mod SpotLemmas
pub mod MeetingLemmas
pub mod EntryLemmas
pub mod TakingLemmas

pub mod LineLemmas
pub mod FaultLemmas
pub mod MemberLemmas
pub mod RequestLaws
pub mod ListedLemmas

pub mod OrderLemmas
pub mod FirstLemmas
pub mod PassingLemmas
pub mod MemberLemmas
pub mod ListedLemmas
pub mod DueLemmas

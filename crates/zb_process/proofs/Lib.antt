pub mod MemberLemmas
pub mod NestingLemmas
pub mod PieceLemmas
pub mod Worked

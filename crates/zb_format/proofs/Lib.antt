pub mod Adding
pub mod ListLemmas
pub mod PieceLemmas
pub mod SizeLemmas
pub mod SkipLemmas
pub mod TextLemmas

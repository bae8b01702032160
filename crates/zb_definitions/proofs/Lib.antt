pub mod PutLemmas
pub mod KeepLemmas

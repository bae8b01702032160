pub mod ListLemmas
pub mod ViewLaws
pub mod KeepLaws
pub mod OnceLaws
pub mod Worked

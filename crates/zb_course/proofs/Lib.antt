pub mod FindLemmas
mod VersionLemmas

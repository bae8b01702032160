mod GateLemmas
mod NumberLemmas
mod PieceLemmas
mod BodyLemmas
mod ScanLemmas
mod OpeningLemmas
mod Settling
mod AppendLemmas
mod FrameLemmas
pub mod LogLaws
pub mod StandsLaws
pub mod CallLaws
pub mod GateLogLaws

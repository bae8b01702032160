mod AppLemmas
mod RowLemmas
mod LeafLemmas
mod StepLemmas
mod ReadLemmas
mod SoundLemmas
mod CompleteLemmas
mod VerbLemmas
mod TakenLemmas
mod PlanLemmas
mod PartLemmas
pub mod WordLaws

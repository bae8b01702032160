-- The events of steps apply.
use Rattle.std.proofs.Common.{ℕ, List, [], ◌∷◌, ◌++◌, IsTrue, Option, Some, None, refl, sym, subst, append-nil, append_assoc}
use Rattle.zb_model.specs.declared.record.Batch.{Batch}
use Rattle.zb_model.specs.declared.record.Command.{Command}
use Rattle.zb_model.specs.declared.record.Event.{Event}
use Rattle.zb_model.specs.declared.record.Outcome.{Outcome}
use Rattle.zb_model.specs.declared.record.Rejection.{Rejection}
use Rattle.zb_views.specs.View.{events_in, events_of}
use Rattle.zb_views.proofs.ViewLaws.{events_of_more}
use Rattle.zb_rules.specs.Applies.{all_apply}
use Rattle.zb_rules.specs.Reason.{reason_for}
use Rattle.zb_rules.specs.Step.{IsAcceptance, IsOutcomeBy, IsStep, AreStepsOn}
use Rattle.zb_rules.proofs.StepLaws.{each_on_all, all_apply_on}

-- the events of a batch apply
pub outcome_applies : (p n moment : ℕ) (before : List Event) (command : Command) (outcome : Outcome) (reason : Option Rejection) → IsOutcomeBy reason outcome (IsAcceptance p n moment before command outcome)
    → IsTrue (all_apply p before (events_in outcome))
outcome_applies p n moment before command outcome (Some rejection) is = rw is refl
outcome_applies p n moment before command outcome None is = rw is.accepted is.applied

-- the events of steps on a log whose events apply do
pub steps_apply_on : (p n : ℕ) (log more : List Batch) → IsTrue (all_apply p [] (events_of log)) → AreStepsOn p n log more → IsTrue (all_apply p [] (events_of (log ++ more)))
steps_apply_on p n log more apply steps =
    each_on_all (IsStep p n) log (λ (more : List Batch). IsTrue (all_apply p [] (events_of (log ++ more))))
    (λ (front : List Batch) (batch : Batch) before applied step.
    let es = events_of (log ++ front) in
    let its = outcome_applies p n batch.moment es batch.command batch.outcome (reason_for es batch.moment batch.command) step.outcome in
    subst (λ (l : List Batch). IsTrue (all_apply p [] (events_of l))) (append_assoc log front (batch ∷ []))
    (rw (events_of_more (log ++ front) batch, all_apply_on p [] es (events_in batch.outcome), applied) its))
    (subst (λ (l : List Batch). IsTrue (all_apply p [] (events_of l))) (sym (append-nil log)) apply) more steps

pub steps_apply : (p n : ℕ) (log : List Batch) → AreStepsOn p n [] log → IsTrue (all_apply p [] (events_of log))
steps_apply p n log steps = steps_apply_on p n [] log refl steps

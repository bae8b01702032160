-- A step of a partition, and a log of steps.
use Rattle.std.specs.Prelude.{◌≡◌, ◌≤◌, ℕ, List, ◌++◌, take, slice_get, IsTrue, Option, Some, None}
use Rattle.zb_model.specs.declared.record.Event.{Event}
use Rattle.zb_model.specs.declared.record.Command.{Command}
use Rattle.zb_model.specs.declared.record.Outcome.{Outcome}
use Rattle.zb_model.specs.declared.record.Outcome.TheVariants as outcomes
use Rattle.zb_model.specs.declared.record.Rejection.{Rejection}
use Rattle.zb_model.specs.declared.record.Batch.{Batch}
use Rattle.zb_views.specs.View.{events_of, moment_of_last}
use Rattle.zb_rules.specs.Reason.{reason_for}
use Rattle.zb_rules.specs.Own.{own_events}
use Rattle.zb_rules.specs.Applies.{all_apply}
use Rattle.zb_rules.specs.Legal.{EachLegal, TurnsLegal}
use Rattle.zb_rules.specs.Settling.{IsRest}

-- the events of a command that is run: its own, and then what is forced. Each applies to those before it, and each move that one shows is legal:
-- what it evaluates is asked of the board before its turn, or, for an own event, of the board before that.
pub record IsAcceptance (p n moment : ℕ) (before : List Event) (command : Command) (outcome : Outcome) : Type 0 where
  pub own : List Event
  pub rest : List Event
  pub are_own : own_events p n before moment command ≡ Some own
  pub settles : IsRest p moment before own rest
  pub applied : IsTrue (all_apply p before (own ++ rest))
  pub own_legal : EachLegal moment before own
  pub rest_legal : TurnsLegal moment (before ++ own) settles.turns
  pub accepted : outcome ≡ outcomes.Accepted (own ++ rest)

-- a command with a reason is rejected by it; one without is run
abbrev pub IsOutcomeBy : Option Rejection → Outcome → Type 0 → Type 0
IsOutcomeBy (Some rejection) outcome Accepted = outcome ≡ outcomes.Rejected rejection
IsOutcomeBy None outcome Accepted = Accepted

-- the outcome of a command at a moment of partition p of n, behind these events
abbrev pub IsOutcomeOf : (p n moment : ℕ) → List Event → Command → Outcome → Type 0
IsOutcomeOf p n moment before command outcome = IsOutcomeBy (reason_for before moment command) outcome (IsAcceptance p n moment before command outcome)

-- at partition p of n the batch is a step on this log
pub record IsStep (p n : ℕ) (log : List Batch) (batch : Batch) : Type 0 where
  -- time doesn't go back
  pub in_time : moment_of_last log ≤ batch.moment
  -- the command is rejected exactly where there is a reason; else it is run, and its batch settles
  pub outcome : IsOutcomeOf p n batch.moment (events_of log) batch.command batch.outcome

-- each of these has this relation to what was there first and those before it
abbrev pub EachOn : {A : Type 0} → (List A → A → Type 0) → List A → List A → Type 0
EachOn {A} R first more = (k : ℕ) (x : A) → slice_get more k ≡ Some x → R (first ++ take k more) x

-- each of these batches is a step on the log and those before it, at partition p of n
abbrev pub AreStepsOn : (p n : ℕ) → List Batch → List Batch → Type 0
AreStepsOn p n = EachOn (IsStep p n)

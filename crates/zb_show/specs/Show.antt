-- What it means that a log is shown.
use Rattle.std.specs.Prelude.{◌≡◌, ℕ, List, [], ◌++◌, Bool, IsTrue, Result, OnOk}
use Rattle.zb_model.specs.declared.record.Batch.{Batch}
use Rattle.zb_partition.specs.Log.{StandsFor, AreBatches, IsApplied, IsBadAt}
use Rattle.zb_words.specs.Plan.{IsPlan}
use Rattle.zb_words.specs.declared.plan.LogPlan.{LogPlan}
use Rattle.zb_words.specs.declared.plan.Plan.TheVariants as plans
use Rattle.zb_show.specs.Lines.{log_lines}

-- a front of these bytes was written behind what stood there; the last ones of them are left (own)
abbrev pub IsWritten : (bytes before after left : List ℕ) → Type 0
IsWritten bytes before after left = (front : List ℕ) × (bytes ≡ front ++ left) × (after ≡ before ++ front)

-- a call wrote a front of these bytes, and all of them where it went well (own)
abbrev pub Writes : {T E : Type 0} → Result T E → (bytes before after : List ℕ) → Type 0
Writes result bytes before after = (left : List ℕ) × IsWritten bytes before after left × OnOk result (left ≡ [])

-- the file stands for the batches of a log of partition p, whose events apply, and where the sink tells, their lines but
-- the bytes that are left were written behind what stood there (own)
pub record PrintsLog (told : Bool) (p : ℕ) (file before after left : List ℕ) : Type 0 where
  pub log : List Batch
  pub stood : StandsFor file log
  pub fits : AreBatches log
  pub applied : IsApplied p log
  pub lines : IsTrue told → IsWritten (log_lines p log) before after left

-- the words ask for a log, and its lines but the bytes that are left were written (own)
pub record ShowsLog (told : Bool) (words : List (List ℕ)) (file before after left : List ℕ) : Type 0 where
  pub plan : LogPlan
  pub asked : IsPlan words (plans.Log plan)
  pub printed : PrintsLog told plan.partition file before after left

-- the words ask for a log, and the file's first frame that isn't good is the one with this number (own)
pub record FindsBad (words : List (List ℕ)) (file : List ℕ) : Type 0 where
  pub plan : LogPlan
  pub asked : IsPlan words (plans.Log plan)
  pub frame : ℕ
  pub bad : IsBadAt plan.partition file frame

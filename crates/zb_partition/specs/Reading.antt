-- Reading a log frame by frame.
use Rattle.std.specs.Prelude.{◌≡◌, ℕ, ◌+◌, List, [], ◌∷◌, ◌++◌, length, slice_index, Bool, true, false, IsTrue, IsFalse, Option, Some}
use Rattle.zb_disk.specs.declared.disk.Disk.{Ghosts}
use Rattle.zb_model.specs.declared.record.Batch.{Batch}
use Rattle.zb_model.specs.declared.record.Event.{Event}
use Rattle.zb_store.specs.Log.{extent}
use Rattle.zb_store.specs.Scan.{count_of_scan, gate_of_scan, is_over, HasFound}
use Rattle.zb_store.specs.declared.scan.Scan.{Scan}
use Rattle.zb_views.specs.View.{events_of, moment_of_last}
use Rattle.zb_state.specs.State as states
use Rattle.zb_state.specs.State.{IsStateOf}
use Rattle.zb_state.specs.declared.facts.Facts.{Facts}
use Rattle.zb_rules.specs.Applies.{applies, all_apply}
use Rattle.zb_partition.specs.Log.{bodies_of, AreBatches, IsApplied}
use Rattle.zb_partition.specs.declared.opening.Known.{Known}

-- this is known of a log that begins with these batches of partition p
pub record IsKnown (p : ℕ) (log : List Batch) (known : Known) : Type 0 where
  pub place : states.partition_of known.state ≡ p
  pub fits : AreBatches log
  pub applied : IsApplied p log
  pub state : IsStateOf (events_of log) known.state
  pub moment : moment_of_last log ≡ known.last_moment

-- no frame of the file was found yet
pub record IsAtStart {D : Type 0} {disks : Ghosts D} (file : List ℕ)
    (scan : Scan D disks) : Type 0 where
  pub going : IsFalse (is_over scan)
  pub count : count_of_scan scan ≡ 0
  pub gate : gate_of_scan scan ≡ 0
  pub none : IsTrue disks.tells → HasFound file scan []

-- the frames that were found in the file are of these batches of partition p
pub record IsRead {D : Type 0} {disks : Ghosts D} (p : ℕ) (file : List ℕ) (scan : Scan D disks)
    (log : List Batch) (known : Known) : Type 0 where
  pub knows : IsKnown p log known
  pub count : count_of_scan scan ≡ length log
  pub extent : gate_of_scan scan + 1 ≡ extent (bodies_of log)
  pub found : IsTrue disks.tells → HasFound file scan (bodies_of log)

-- one more frame was read, or there are no more
abbrev pub IsReadOn : {D : Type 0} {disks : Ghosts D} → ℕ → List ℕ → Scan D disks → List Batch
    → Known → (more : Bool) → Type 0
IsReadOn p file scan log known true = (batch : Batch) × IsRead p file scan (log ++ batch ∷ []) known
IsReadOn {disks = disks} p file scan log known false = IsRead p file scan log known
    × (IsTrue disks.tells → slice_index file (gate_of_scan scan) ≡ 0)

-- an event was read, and the bytes behind it; it applies to those before it, and the state has taken it in
abbrev pub IsTaken : ℕ → List Event → Option (Event × List ℕ) → List ℕ → Facts → Type 0
IsTaken p es read rest state = (e : Event) × (read ≡ Some (e, rest)) × IsTrue (applies p es e)
    × IsStateOf (es ++ e ∷ []) state

-- events were read, and nothing stands behind them; they apply to those before them, and the state has taken them in
abbrev pub AreTaken : ℕ → List Event → Option (List Event × List ℕ) → Facts → Type 0
AreTaken p es read state = (events : List Event) × (read ≡ Some (events, []))
    × IsTrue (all_apply p es events) × IsStateOf (es ++ events) state

-- an event that was read, if one was, doesn't apply to those before it
abbrev pub IsRefused : ℕ → List Event → Option (Event × List ℕ) → Type 0
IsRefused p es read = (e : Event) (rest : List ℕ) → read ≡ Some (e, rest) → IsFalse (applies p es e)

-- events that were read with nothing behind them, if some were, don't all apply to those before them
abbrev pub AreRefused : ℕ → List Event → Option (List Event × List ℕ) → Type 0
AreRefused p es read = (events : List Event) → read ≡ Some (events, [])
    → IsFalse (all_apply p es events)

-- The log of a partition in its file, and a file that is none.
use Rattle.std.specs.Prelude.{◌≡◌, ◌⊎◌, ◌<◌, ◌+◌, ℕ, List, [], length, map, sum_by, IsTrue}
use Rattle.std.specs.List.{AllByRecursion}
use Rattle.zb_model.specs.declared.record.Batch.{Batch}
use Rattle.zb_model.specs.Record.{bytes_of}
use Rattle.zb_model.specs.RecordFits.{IsBatch}
use Rattle.zb_store.specs.Stands.{Stands, Leads, IsFrame, RunsPast}
use Rattle.zb_views.specs.View.{events_of, events_in}
use Rattle.zb_rules.specs.Applies.{all_apply}

-- the bodies of the frames that a log of these batches has
abbrev pub bodies_of : List Batch → List (List ℕ)
bodies_of log = map bytes_of log

-- this file stands for this log: its frames are those of the log's batches
abbrev pub StandsFor : List ℕ → List Batch → Type 0
StandsFor file log = Stands file (bodies_of log)

-- how many bytes the frame of a batch has: a gate, a length of eight bytes, and the body
abbrev pub frame_size : Batch → ℕ
frame_size batch = 9 + length (bytes_of batch)

-- how long a log is that had this length when it was opened, with the batches that were made since
abbrev pub length_behind : (opened : ℕ) → List Batch → ℕ
length_behind opened made = opened + sum_by frame_size made

-- each batch fits its spelling: none of its numbers, texts and lists is larger than its field can tell
abbrev pub AreBatches : List Batch → Type 0
AreBatches log = AllByRecursion IsBatch log

-- each event of the log applies, at partition p, to those before it
abbrev pub IsApplied : ℕ → List Batch → Type 0
IsApplied p log = IsTrue (all_apply p [] (events_of log))

-- a body that no batch spells whose events apply to the log before it
abbrev pub IsBadBody : ℕ → List Batch → List ℕ → Type 0
IsBadBody p log body = (batch : Batch) → IsBatch batch → body ≡ bytes_of batch
    → IsTrue (all_apply p (events_of log) (events_in batch.outcome)) → ⊥

-- The first frame of partition p's file that isn't good is the one with this number, from 0. The frames before it are of
-- batches whose events apply.
pub record IsBadAt (p : ℕ) (file : List ℕ) (frame : ℕ) : Type 0 where
  pub log : List Batch
  pub count : length log ≡ frame
  pub fits : AreBatches log
  pub applied : IsApplied p log
  pub long : 1 < length file
  pub gate : ℕ
  pub leads : Leads file 0 (bodies_of log) gate
  -- its body is bad, or it runs past the end of the file
  pub bad : ((body : List ℕ) × IsFrame file gate body × IsBadBody p log body) ⊎ RunsPast file gate

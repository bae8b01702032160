-- Where the reading of a log begins, and what was found behind it.
use Rattle.std.specs.Prelude.{◌≡◌, ◌++◌, ℕ, List, length, Bool, IsTrue}
use Rattle.zb_model.specs.declared.record.Batch.{Batch}
use Rattle.zb_partition.specs.Log.{StandsFor, length_behind, AreBatches, IsApplied}

-- where the reading of a log begins: behind so many of its frames
pub record Ground : Type 0 where
  pub frames : ℕ

-- in front of all frames, which is where every log is read from so far
abbrev pub at_start : Ground
at_start = record { frames = 0 }

-- the log had these batches before a ground
abbrev pub IsGroundAfter : List Batch → Ground → Type 0
IsGroundAfter before ground = length before ≡ ground.frames

-- what an opening found of a log: where its reading began, the batches of the frames from there on, and how long the log is
pub record Found : Type 0 where
  pub ground : Ground
  pub tail : List Batch
  pub length : ℕ

-- the log goes on from where its reading began by the batches that were found
abbrev pub IsLogOn : Found → List Batch → Type 0
IsLogOn found log = (before : List Batch) × (log ≡ before ++ found.tail)
    × IsGroundAfter before found.ground

-- what was found in this file of partition p, where its disk tells
pub record IsFoundIn (p : ℕ) (tells : Bool) (file : List ℕ) (found : Found) : Type 0 where
  -- all frames were read
  pub ground : found.ground ≡ at_start
  -- the file stands for the batches, which fit their spelling, and whose events apply
  pub stood : IsTrue tells → StandsFor file found.tail
  pub fits : AreBatches found.tail
  pub applied : IsApplied p found.tail
  -- each frame is counted once
  pub length : found.length ≡ length_behind 1 found.tail

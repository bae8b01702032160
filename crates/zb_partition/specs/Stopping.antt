-- What is made of a command, and what its log is left with where it can't be added.
use Rattle.std.specs.Prelude.{◌≡◌, ◌⊎◌, ◌<◌, ◌≤◌, ◌+◌, ◌-◌, ◌^◌, min, ℕ, List, [], ◌∷◌, ◌++◌}
use Rattle.std.specs.Prelude.{length, Bool, IsTrue, Option, Some, None}
use Rattle.zb_disk.specs.Cause.{Rose}
use Rattle.zb_model.specs.declared.record.Batch.{Batch}
use Rattle.zb_model.specs.declared.record.Command.{Command}
use Rattle.zb_model.specs.declared.stop.Stop.{Stop}
use Rattle.zb_model.specs.declared.stop.Stop.TheVariants as stops
use Rattle.zb_model.specs.Record.{bytes_of}
use Rattle.zb_model.specs.RecordFits.{IsBatch}
use Rattle.zb_store.specs.declared.fault.StoreFault.{StoreFault}
use Rattle.zb_store.specs.declared.fault.StoreFault.TheVariants as store
use Rattle.zb_partition.specs.Log.{StandsFor, frame_size}

-- the batch is of this command, at this moment and with this begin
pub record IsOfCommand (at begin_at : ℕ) (asked : Command) (batch : Batch) : Type 0 where
  pub moment : batch.moment ≡ at
  pub begin : batch.begin ≡ begin_at
  pub command : batch.command ≡ asked

-- the frame of a batch: nine bytes more than the batch has, at most the greatest number of 64 bits
abbrev pub frame_of : Batch → ℕ
frame_of batch = min (length (bytes_of batch) + 9) (2 ^ 64 - 1)

-- a file stands for the log, or for it with this batch
abbrev pub IsLogOrMore : List Batch → Batch → List ℕ → Type 0
IsLogOrMore log batch file = StandsFor file log ⊎ StandsFor file (log ++ batch ∷ [])

-- a file stands for the log, or, where the disk was hurt, for it with the batch that was in writing
abbrev pub IsLeft : Type 0 → List Batch → Option Batch → List ℕ → Type 0
IsLeft hurt log None file = StandsFor file log
IsLeft hurt log (Some batch) file = StandsFor file log
    ⊎ (hurt × IsBatch batch × StandsFor file (log ++ batch ∷ []))

-- the disk failed, or its calls take memory
abbrev pub IsHurt : (takes_memory : Bool) (before after : ℕ) → Type 0
IsHurt takes_memory before after = Rose before after ⊎ IsTrue takes_memory

-- the frame of the batch doesn't fit into a log of this length, or it does and there was no memory
-- for it
abbrev pub IsTooLong : (length_is limit : ℕ) → Batch → Stop → Type 0
IsTooLong length_is limit batch stops.Memory = length_is + frame_size batch ≤ limit
IsTooLong length_is limit batch stops.DiskFault = ⊥
IsTooLong length_is limit batch (stops.LogFull length_told frame most) = (length_told ≡ length_is)
    × (frame ≡ frame_of batch) × (most ≡ limit) × (most < length_told + frame)

-- why a partition stops where its log was refused a frame
abbrev pub stop_of : StoreFault → Stop
stop_of store.DiskFault = stops.DiskFault
stop_of (store.LogFull length_told frame limit) = stops.LogFull length_told frame limit
stop_of store.Memory = stops.Memory

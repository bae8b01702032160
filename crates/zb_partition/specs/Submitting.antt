-- A command that is submitted at a partition, and one that stops it.
use Rattle.std.specs.Prelude.{◌≡◌, ◌⊎◌, ◌<◌, ◌≤◌, ◌+◌, max, ℕ, List, [], ◌∷◌, ◌++◌, IsTrue}
use Rattle.std.specs.Prelude.{Option, Some, None}
use Rattle.zb_disk.specs.Cause.{Rose}
use Rattle.zb_disk.specs.declared.disk.Disk.{Ghosts}
use Rattle.zb_model.specs.declared.record.Batch.{Batch}
use Rattle.zb_model.specs.declared.record.Command.{Command}
use Rattle.zb_model.specs.declared.stop.Stop.{Stop}
use Rattle.zb_model.specs.declared.stop.Stop.TheVariants as stops
use Rattle.zb_store.specs.Calls.{LeavesFiles}
use Rattle.zb_store.specs.GateLog.{disk_of_log, view_of_log, length_of, limit_of_log}
use Rattle.zb_store.specs.declared.gate_log.GateLog.{GateLog}
use Rattle.zb_views.specs.View.{moment_of_last}
use Rattle.zb_rules.specs.Step.{IsStep}
use Rattle.zb_partition.specs.Log.{frame_size}
use Rattle.zb_partition.specs.Stopping.{IsOfCommand, frame_of, IsLogOrMore, IsLeft, IsHurt}
use Rattle.zb_partition.specs.Partition.{disk_of, view_in, slots_of, log_length_of, in_writing}
use Rattle.zb_partition.specs.Partition.{HasLog}
use Rattle.zb_partition.specs.Ledger.{Account, account_of, first_disk, log_of, length_with}
use Rattle.zb_partition.specs.Ledger.{slots_in, AreMadeBatches, WasOpened, LeftSince, IsFront}
use Rattle.zb_partition.specs.Ledger.{HasAccount}
use Rattle.zb_partition.specs.declared.partition.Partition.{Partition}

-- behind what an account has, the batch is the step of this command at a reading of the clock
pub record IsStepFor {D : Type 0} (account : Account D) (reading begin_at : ℕ) (asked : Command)
    (batch : Batch) : Type 0 where
  pub step : IsStep account.opening.place account.opening.partitions (log_of account) batch
  pub is : IsOfCommand (max (moment_of_last (log_of account)) reading) begin_at asked batch

-- behind what an account has, this command was submitted with this begin at a reading of the clock,
-- and this is its batch, which the log has
pub record IsCommitted {D : Type 0} {disks : Ghosts D} (account : Account D)
    (reading begin_at : ℕ) (asked : Command) (batch : Batch) (partition : Partition D disks)
    : Type 0 where
  pub made : IsStepFor account reading begin_at asked batch
  pub holds : HasAccount (account_of account.opening (account.made ++ batch ∷ [])) partition

-- the log of an account has room for this batch
abbrev pub HasRoomFor : {D : Type 0} → Account D → Batch → Type 0
HasRoomFor account batch =
    length_with account.opening (account.made ++ batch ∷ []) ≤ account.opening.limit

-- Why a partition stopped behind what an account has. `refused` is the batch that was made and isn't
-- in the log. Where the disk failed, the log had room for it, and it was in writing; a log is full
-- where the frame doesn't fit; where memory ran out, it had room.
abbrev pub IsStopCause : {D : Type 0} → Account D → (rose : Type 0)
    → (refused writing : Option Batch)
    → Stop → Type 0
IsStopCause account rose refused writing stops.Memory = ((writing ≡ None) ⊎ (refused ≡ writing))
    × ((batch : Batch) → refused ≡ Some batch → HasRoomFor account batch)
IsStopCause account rose refused writing stops.DiskFault = rose
    × ((batch : Batch) × (writing ≡ Some batch) × HasRoomFor account batch) × (refused ≡ writing)
IsStopCause account rose refused writing (stops.LogFull length_told frame most) =
    (writing ≡ None) × (length_told ≡ length_with account.opening account.made)
    × (most ≡ account.opening.limit) × (most < length_told + frame)
    × ((batch : Batch) × (refused ≡ Some batch) × (frame ≡ frame_of batch))

-- the disk was hurt since the run began
abbrev pub IsHurtSince : {D : Type 0} {disks : Ghosts D} → Account D → Partition D disks → Type 0
IsHurtSince {D} {disks} account partition = IsHurt disks.takes_memory
    (disks.view (first_disk account)).faults (view_in partition).faults

-- what the stopped partition's file may be
abbrev pub IsLeftIn : {D : Type 0} {disks : Ghosts D} → Account D → Partition D disks → List ℕ
    → Type 0
IsLeftIn account partition file =
    IsLeft (IsHurtSince account partition) (log_of account) (in_writing partition) file

-- behind what an account has, the partition was stopped: why, with the batch that was made last and
-- isn't in the log, if there is one, and what the disk holds
pub record HasStopped {D : Type 0} {disks : Ghosts D} (account : Account D)
    (refused : Option Batch) (stop : Stop) (partition : Partition D disks) : Type 0 where
  pub was : WasOpened disks account.opening
  pub made : AreMadeBatches account.opening account.made
  pub left : (batch : Batch) → refused ≡ Some batch
      → IsStep account.opening.place account.opening.partitions (log_of account) batch
  pub cause : IsStopCause account
      (Rose (disks.view (first_disk account)).faults (view_in partition).faults)
      refused (in_writing partition) stop
  pub file : IsTrue disks.tells → IsLeftIn account partition (view_in partition).contents
  pub crash : IsTrue disks.tells_images → (image : List ℕ) → disks.images (disk_of partition) image
      → IsLeftIn account partition image
  pub time : IsTrue disks.tells_images → LeftSince disks account.opening (disk_of partition)
      (λ image. IsFront account.opening.batches account.made image
      ⊎ IsLeftIn account partition image)
  pub steady : IsTrue disks.counts_failures → (stop ≡ stops.DiskFault → ⊥)
      → (view_in partition).faults ≡ (disks.view (first_disk account)).faults
  pub slots : slots_of partition ≡ slots_in account.opening.volume

-- behind what an account has, this command with this begin at a reading of the clock stopped the
-- partition
pub record HasRefused {D : Type 0} {disks : Ghosts D} (account : Account D)
    (reading begin_at : ℕ) (asked : Command) (stop : Stop) (partition : Partition D disks)
    : Type 0 where
  -- the batch that was made and isn't in the log, if there was one
  pub refused : Option Batch
  pub next : (batch : Batch) → refused ≡ Some batch
      → IsStepFor account reading begin_at asked batch
  pub stopped : HasStopped account refused stop partition

-- a batch was added to this log, which had room for it: what the partition has, and what a crash at
-- any moment since leaves
pub record IsAdded {D : Type 0} {disks : Ghosts D} (log : List Batch) (batch : Batch)
    (before : GateLog D disks) (new : Partition D disks) : Type 0 where
  pub has : HasLog (log ++ batch ∷ []) new
  pub long : log_length_of new ≡ length_of before + frame_size batch
  pub fits : log_length_of new ≤ limit_of_log before
  pub leaves : LeavesFiles disks (disk_of_log before) (disk_of new) (IsLogOrMore log batch)
  pub later : (view_of_log before).faults ≤ (view_in new).faults
  pub steady : IsTrue disks.counts_failures
      → (view_in new).faults ≡ (view_of_log before).faults

-- a log in its file has room for this batch
abbrev pub IsRoomFor : {D : Type 0} {disks : Ghosts D} → GateLog D disks → Batch → Type 0
IsRoomFor log batch = length_of log + frame_size batch ≤ limit_of_log log

-- why a batch was not added to the log
abbrev pub IsWhyUnwritten : {D : Type 0} {disks : Ghosts D} → GateLog D disks → Partition D disks
    → Batch → Stop → Type 0
IsWhyUnwritten before new batch stops.Memory = IsRoomFor before batch
    × ((in_writing new ≡ None) ⊎ (Some batch ≡ in_writing new))
IsWhyUnwritten before new batch stops.DiskFault = IsRoomFor before batch
    × (Some batch ≡ in_writing new) × Rose (view_of_log before).faults (view_in new).faults
IsWhyUnwritten before new batch (stops.LogFull length_told frame most) = (in_writing new ≡ None)
    × (length_told ≡ length_of before) × (frame ≡ frame_of batch) × (most ≡ limit_of_log before)
    × (most < length_told + frame)

-- a batch was not added to this log, for this reason: what the file holds, and what a crash leaves
-- of it, now and at any moment since
pub record IsUnwritten {D : Type 0} {disks : Ghosts D} (log : List Batch) (batch : Batch)
    (stop : Stop) (before : GateLog D disks) (new : Partition D disks) : Type 0 where
  pub why : IsWhyUnwritten before new batch stop
  pub leaves : LeavesFiles disks (disk_of_log before) (disk_of new)
      (IsLeft (IsHurt disks.takes_memory (view_of_log before).faults (view_in new).faults) log
      (in_writing new))
  pub steady : IsTrue disks.counts_failures → (stop ≡ stops.DiskFault → ⊥)
      → (view_in new).faults ≡ (view_of_log before).faults

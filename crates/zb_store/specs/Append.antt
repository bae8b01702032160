-- What an append does to a log.
use Rattle.std.specs.Prelude.{◌≡◌, ◌≤◌, ◌+◌, ℕ, List, [], ◌∷◌, length, IsTrue, Result, IsErrOf}
use Rattle.zb_disk.specs.Cause.{Rose}
use Rattle.zb_disk.specs.Disk.{Only, overwritten}
use Rattle.zb_disk.specs.declared.disk.Disk.{Ghosts}
use Rattle.zb_store.specs.Cause.{IsFullAt, UnlessDiskFault}
use Rattle.zb_store.specs.GateLog.{disk_of_log, file_of_log, limit_of_log, count_of, length_of, last_gate_of, is_sound, IsSameLog}
use Rattle.zb_store.specs.declared.fault.StoreFault.{StoreFault}
use Rattle.zb_store.specs.declared.fault.StoreFault.TheVariants.{DiskFault, LogFull, Memory}
use Rattle.zb_store.specs.declared.gate_log.GateLog.{GateLog}

-- a frame was added to a log, which had room for it
pub record IsGrownBy {D : Type 0} {disks : Ghosts D} (frame : List ℕ)
    (old new : GateLog D disks) : Type 0 where
  pub count : count_of new ≡ count_of old + 1
  pub longer : length_of new ≡ length_of old + length frame
  pub fits : length_of old + length frame ≤ limit_of_log old
  pub limit : limit_of_log new ≡ limit_of_log old
  -- it takes more
  pub sound : IsTrue (is_sound new)
  -- the frame stands behind the gate that was the last one, which was opened by 1, and is on the disk
  pub written : IsTrue disks.tells → file_of_log new
      ≡ overwritten (overwritten (file_of_log old) (length_of old) frame) (last_gate_of old)
      (1 ∷ [])
  pub durable : IsTrue disks.tells_images → Only (file_of_log new) (disks.images (disk_of_log new))

-- a frame was not added to a log, for this reason
pub record IsKeptOut {D : Type 0} {disks : Ghosts D} (frame : List ℕ) (fault : StoreFault)
    (old new : GateLog D disks) : Type 0 where
  pub same : IsSameLog old new
  -- a full log has no room for the frame, and its disk is left alone
  pub full : IsFullAt (length_of old) (length frame) (limit_of_log old) fault
  pub untouched : (n m k : ℕ) → fault ≡ LogFull n m k → new ≡ old
  -- behind any other refusal it takes no more
  pub unsound : IsTrue (is_sound new) → new ≡ old

-- `DiskFault` is told only where the disk's count of faults rose, and `Memory` only by a disk that takes memory; where
-- the disk counts nothing but failures, no other answer raised the count
pub record IsCausedBy {T D : Type 0} (disks : Ghosts D) (old new : D)
    (result : Result T StoreFault) : Type 0 where
  pub later : (disks.view old).faults ≤ (disks.view new).faults
  pub failed : IsErrOf result DiskFault → Rose (disks.view old).faults (disks.view new).faults
  pub memory : IsErrOf result Memory → IsTrue disks.takes_memory
  pub steady : IsTrue disks.counts_failures
      → UnlessDiskFault result ((disks.view new).faults ≡ (disks.view old).faults)

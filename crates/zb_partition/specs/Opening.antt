-- Opening a partition.
use Rattle.std.specs.Prelude.{◌≡◌, ℕ, List, Result, Ok, Err}
use Rattle.zb_disk.specs.declared.disk.Disk.{Ghosts}
use Rattle.zb_model.specs.declared.record.Batch.{Batch}
use Rattle.zb_store.specs.declared.volume.Volume.{Volume}
use Rattle.zb_partition.specs.Ground.{Found, IsLogOn, IsFoundIn}
use Rattle.zb_partition.specs.Partition.{disk_of, slots_of, log_length_of, HasLog}
use Rattle.zb_partition.specs.declared.fault.OpenFault.{OpenFault}
use Rattle.zb_partition.specs.declared.partition.Partition.{Partition}

-- This was found in the file, and the partition has each log that goes on from where its reading
-- began by the batches that were found.
pub record IsOpened {D : Type 0} {disks : Ghosts D} (place : ℕ) (file : List ℕ) (found : Found)
    (partition : Partition D disks) : Type 0 where
  pub found_in : IsFoundIn place disks.tells file found
  pub long : log_length_of partition ≡ found.length
  pub has : (log : List Batch) → IsLogOn found log → HasLog log partition

-- the log's disk behind an opening, whether it was refused or not
abbrev pub disk_after : {D : Type 0} {disks : Ghosts D}
    → Result (Partition D disks) (OpenFault × Volume D) → D
disk_after (Ok partition) = disk_of partition
disk_after (Err refused) = refused.1.log

-- the slots behind an opening
abbrev pub slots_after : {D : Type 0} {disks : Ghosts D}
    → Result (Partition D disks) (OpenFault × Volume D) → D × D
slots_after (Ok partition) = slots_of partition
slots_after (Err refused) = (refused.1.snap_a, refused.1.snap_b)

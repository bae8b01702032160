-- What contracts see of a partition.
use Rattle.std.specs.Prelude.{◌≡◌, ℕ, List, [], ◌∷◌, ◌++◌, length, Bool, Option, None}
use Rattle.zb_disk.specs.Disk.{DiskView}
use Rattle.zb_disk.specs.declared.disk.Disk.{Ghosts}
use Rattle.zb_model.specs.declared.record.Batch.{Batch}
use Rattle.zb_store.specs.GateLog as gates
use Rattle.zb_views.specs.View.{events_of, moment_of_last}
use Rattle.zb_state.specs.State as states
use Rattle.zb_state.specs.State.{IsStateOf}
use Rattle.zb_partition.specs.Log.{bodies_of, AreBatches}
use Rattle.zb_partition.specs.declared.partition.Partition.{Partition}

-- its number
abbrev pub partition_number_of : {D : Type 0} {disks : Ghosts D} → Partition D disks → ℕ
partition_number_of partition = states.partition_of partition.state

-- of how many partitions it is one
abbrev pub partitions_of : {D : Type 0} {disks : Ghosts D} → Partition D disks → ℕ
partitions_of partition = partition.partitions

-- the disk of its log
abbrev pub disk_of : {D : Type 0} {disks : Ghosts D} → Partition D disks → D
disk_of partition = gates.disk_of_log partition.log

-- its slots for snapshots
abbrev pub slots_of : {D : Type 0} {disks : Ghosts D} → Partition D disks → D × D
slots_of partition = (partition.snap_a, partition.snap_b)

-- how many bytes its log may have
abbrev pub limit_of : {D : Type 0} {disks : Ghosts D} → Partition D disks → ℕ
limit_of partition = gates.limit_of_log partition.log

-- how many frames its log has
abbrev pub frames_of : {D : Type 0} {disks : Ghosts D} → Partition D disks → ℕ
frames_of partition = gates.count_of partition.log

-- the moment of its last batch
abbrev pub last_moment_of : {D : Type 0} {disks : Ghosts D} → Partition D disks → ℕ
last_moment_of partition = partition.last_moment

-- no command has stopped it
abbrev pub is_live : {D : Type 0} {disks : Ghosts D} → Partition D disks → Bool
is_live partition = partition.live

-- the batch that it was writing when it was stopped
abbrev pub in_writing : {D : Type 0} {disks : Ghosts D} → Partition D disks → Option Batch
in_writing partition = partition.in_writing

-- how long its log is, in bytes
abbrev pub log_length_of : {D : Type 0} {disks : Ghosts D} → Partition D disks → ℕ
log_length_of partition = gates.length_of partition.log

-- the disk of its log as plain data
abbrev pub view_in : {D : Type 0} {disks : Ghosts D} → Partition D disks → DiskView
view_in {D} {disks} partition = disks.view (disk_of partition)

-- these batches are its log: in the file, on the disk, and in what it knows of them
pub record HasLog {D : Type 0} {disks : Ghosts D} (log : List Batch)
    (partition : Partition D disks) : Type 0 where
  pub frames : gates.IsLogOf (bodies_of log) partition.log
  pub fits : AreBatches log
  pub count : frames_of partition ≡ length log
  pub state : IsStateOf (events_of log) partition.state
  pub moment : moment_of_last log ≡ partition.last_moment
  pub resting : partition.in_writing ≡ None

-- these batches are its log in the file and on the disk, and it knows of one more
pub record IsAhead {D : Type 0} {disks : Ghosts D} (log : List Batch) (batch : Batch)
    (partition : Partition D disks) : Type 0 where
  pub frames : gates.IsLogOf (bodies_of log) partition.log
  pub fits : AreBatches log
  pub count : frames_of partition ≡ length log
  pub state : IsStateOf (events_of (log ++ batch ∷ [])) partition.state
  pub moment : batch.moment ≡ partition.last_moment
  pub resting : partition.in_writing ≡ None

-- two partitions with the same numbers, limit and slots
pub record IsSamePartition {D : Type 0} {disks : Ghosts D}
    (old new : Partition D disks) : Type 0 where
  pub place : partition_number_of new ≡ partition_number_of old
  pub partitions : partitions_of new ≡ partitions_of old
  pub limit : limit_of new ≡ limit_of old
  pub slots : slots_of new ≡ slots_of old

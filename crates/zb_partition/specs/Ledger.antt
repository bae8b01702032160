-- What is known of a partition's log, from the beginning of the run on.
use Rattle.std.specs.Prelude.{◌≡◌, ◌⊎◌, ◌≤◌, ℕ, List, [], ◌++◌, take, IsTrue}
use Rattle.zb_disk.specs.declared.disk.Disk.{Ghosts}
use Rattle.zb_model.specs.declared.record.Batch.{Batch}
use Rattle.zb_store.specs.Calls.{IsByFirstCall}
use Rattle.zb_store.specs.declared.volume.Volume.{Volume}
use Rattle.zb_rules.specs.Step.{AreStepsOn}
use Rattle.zb_partition.specs.Log.{StandsFor, length_behind, AreBatches, IsApplied}
use Rattle.zb_partition.specs.Ground.{Found, IsLogOn, IsFoundIn}
use Rattle.zb_partition.specs.Partition.{disk_of, slots_of, view_in, log_length_of, partition_number_of}
use Rattle.zb_partition.specs.Partition.{partitions_of, limit_of, is_live, HasLog}
use Rattle.zb_partition.specs.declared.partition.Partition.{Partition}

-- how a log was opened: the number of its partition, of how many; its volume as the run began; how
-- many bytes the log may have; what was found of it, and the moment of its disk at which it was
-- open; and the batches that it had, which go on from where its reading began
pub record Opening (D : Type 0) : Type 0 where
  pub place : ℕ
  pub partitions : ℕ
  pub volume : Volume D
  pub limit : ℕ
  pub found : Found
  pub moment : ℕ
  pub batches : List Batch

-- what a log began with, and the batches made since
pub record Account (D : Type 0) : Type 0 where
  pub opening : Opening D
  pub made : List Batch

-- the account of an opening with these batches
abbrev pub account_of : {D : Type 0} → Opening D → List Batch → Account D
account_of opening made = record { opening = opening; made = made }

-- the same opening, of a log with these batches
abbrev pub on_log : {D : Type 0} → Opening D → List Batch → Opening D
on_log opening log = record {
  place = opening.place;
  partitions = opening.partitions;
  volume = opening.volume;
  limit = opening.limit;
  found = opening.found;
  moment = opening.moment;
  batches = log;
}

-- the disk of its log as the run began
abbrev pub first_disk : {D : Type 0} → Account D → D
first_disk account = account.opening.volume.log

-- the log of an account
abbrev pub log_of : {D : Type 0} → Account D → List Batch
log_of account = account.opening.batches ++ account.made

-- how long a log is that was opened so, with these batches more
abbrev pub length_with : {D : Type 0} → Opening D → List Batch → ℕ
length_with opening made = length_behind opening.found.length made

-- the slots for snapshots of a volume
abbrev pub slots_in : {D : Type 0} → Volume D → D × D
slots_in volume = (volume.snap_a, volume.snap_b)

-- a volume was opened as the partition with this number, of so many, with this limit
pub record IsOpeningOf {D : Type 0} (volume : Volume D) (place partitions limit : ℕ)
    (opening : Opening D) : Type 0 where
  pub volume_is : opening.volume ≡ volume
  pub place_is : opening.place ≡ place
  pub partitions_are : opening.partitions ≡ partitions
  pub limit_is : opening.limit ≡ limit

-- these batches were made on a log that was opened so; all fit their spelling
pub record AreMadeBatches {D : Type 0} (opening : Opening D) (made : List Batch) : Type 0 where
  pub steps : AreStepsOn opening.place opening.partitions opening.batches made
  pub fit : AreBatches (opening.batches ++ made)
  pub fits : (made ≡ []) ⊎ (length_with opening made ≤ opening.limit)

-- the log as it was opened: what was found in its file, what that stood for, and when it was open
pub record WasOpened {D : Type 0} (disks : Ghosts D) (opening : Opening D) : Type 0 where
  pub found : IsFoundIn opening.place disks.tells (disks.view opening.volume.log).contents
      opening.found
  pub goes_on : IsLogOn opening.found opening.batches
  pub stood : IsTrue disks.tells
      → StandsFor (disks.view opening.volume.log).contents opening.batches
  pub applied : IsApplied opening.place opening.batches
  pub by_first : IsTrue disks.tells_images
      → IsByFirstCall (disks.view opening.volume.log).moment opening.moment

-- a partition has this log, as it was opened and grew, and no command has stopped it
pub record IsOpen {D : Type 0} {disks : Ghosts D} (opening : Opening D)
    (partition : Partition D disks) (log : List Batch) : Type 0 where
  pub has : HasLog log partition
  pub live : IsTrue (is_live partition)
  pub place : partition_number_of partition ≡ opening.place
  pub partitions : partitions_of partition ≡ opening.partitions
  pub most : limit_of partition ≡ opening.limit

-- since the log was open a crash left files that have P; one before, since the run began, what one
-- before the run might have left
pub record LeftSince {D : Type 0} (disks : Ghosts D) (opening : Opening D) (disk : D)
    (P : List ℕ → Type 0) : Type 0 where
  pub later : opening.moment ≤ (disks.view disk).moment
  pub ever : (image : List ℕ) → disks.since disk opening.moment image → P image
  pub before : (image : List ℕ)
      → disks.since disk (disks.view opening.volume.log).moment image
      → disks.images opening.volume.log image ⊎ disks.since disk opening.moment image

-- a file stands for a front of a log that grew, which has all batches that were there at opening
abbrev pub IsFront : List Batch → List Batch → List ℕ → Type 0
IsFront opened made file = (k : ℕ) × StandsFor file (opened ++ take k made)

-- a partition has these batches, and its disk hasn't failed since the run began
pub record HasAccount {D : Type 0} {disks : Ghosts D} (account : Account D)
    (partition : Partition D disks) : Type 0 where
  pub was : WasOpened disks account.opening
  pub made : AreMadeBatches account.opening account.made
  pub is_open : IsOpen account.opening partition (log_of account)
  pub long : log_length_of partition ≡ length_with account.opening account.made
  pub time : IsTrue disks.tells_images → LeftSince disks account.opening (disk_of partition)
      (IsFront account.opening.batches account.made)
  pub faults : (disks.view (first_disk account)).faults ≤ (view_in partition).faults
  pub steady : IsTrue disks.counts_failures
      → (view_in partition).faults ≡ (disks.view (first_disk account)).faults
  pub slots : slots_of partition ≡ slots_in account.opening.volume

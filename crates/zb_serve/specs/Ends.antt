-- What was handed to a run and what it handed back, as plain data.
use Rattle.std.specs.Prelude.{◌≡◌, ◌⊎◌, ◌<◌, ℕ, List, [], ◌∷◌, length, Bool}
use Rattle.zb_disk.specs.Cause.{Rose}
use Rattle.zb_disk.specs.Disk.{DiskView}
use Rattle.zb_disk.specs.declared.disk.Disk as disk_trait
use Rattle.zb_outside.specs.declared.source.Source as source_trait
use Rattle.zb_outside.specs.declared.sink.Sink as sink_trait
use Rattle.zb_store.specs.Calls.{LeftByOpening}
use Rattle.zb_desk.specs.Numbered.{OfNumber}
use Rattle.zb_session.specs.Session.{SessionEnds}
use Rattle.zb_session.specs.declared.session.Session.{Session}
use Rattle.zb_store.specs.declared.volume.Volume.{Volume}

-- a disk, as the run began and as it ended
pub record DiskEnds : Type 0 where
  pub before : DiskView
  pub after : DiskView

-- a volume, as the run began and as it ended: the disk of its log, and those of its slots for
-- snapshots
pub record VolumeEnds : Type 0 where
  pub log : DiskEnds
  pub snap_a : DiskEnds
  pub snap_b : DiskEnds

-- each of a volume's disks has P
abbrev pub EachDisk : (DiskEnds → Type 0) → VolumeEnds → Type 0
EachDisk P ends = P ends.log × P ends.snap_a × P ends.snap_b

-- the disk of one of its slots has P
abbrev pub AnySlot : (DiskEnds → Type 0) → VolumeEnds → Type 0
AnySlot P ends = P ends.snap_a ⊎ P ends.snap_b

-- one of its disks has P
abbrev pub AnyDisk : (DiskEnds → Type 0) → VolumeEnds → Type 0
AnyDisk P ends = P ends.log ⊎ AnySlot P ends

-- the count of a disk's faults rose
abbrev pub HasRisen : DiskEnds → Type 0
HasRisen ends = Rose ends.before.faults ends.after.faults

-- that count stayed
abbrev pub IsSteady : DiskEnds → Type 0
IsSteady ends = ends.after.faults ≡ ends.before.faults

-- no call was made of a disk
abbrev pub IsUncalled : DiskEnds → Type 0
IsUncalled ends = ends.after ≡ ends.before

-- the ends of a run: of each session's streams, and of each volume
pub record RunEnds : Type 0 where
  pub sessions : List SessionEnds
  pub volumes : List VolumeEnds

-- what the types handed in tell, which of their calls may want memory, and which of them count
-- nothing but failures
pub record Told : Type 0 where
  pub source : Bool
  pub sink : Bool
  pub disk : Bool
  pub images : Bool
  pub sink_memory : Bool
  pub disk_memory : Bool
  pub source_counts : Bool
  pub sink_counts : Bool
  pub disk_counts : Bool

-- the devices of a run: what the clauses of their traits mean for the types that were handed in
pub record Devices (S K D : Type 0) : Type 1 where
  pub source : source_trait.Ghosts S
  pub sink : sink_trait.Ghosts K
  pub disk : disk_trait.Ghosts D

-- the devices of a run, by their traits
abbrev pub devices_of : {S K D : Type 0} → source_trait.Ghosts S → sink_trait.Ghosts K
    → disk_trait.Ghosts D → Devices S K D
devices_of source sink disk = record { source = source; sink = sink; disk = disk }

-- what a sink and a disk tell, beside a source that tells and counts so
abbrev pub all_told : {K D : Type 0} → (source_tells source_counts : Bool) → sink_trait.Ghosts K
    → disk_trait.Ghosts D → Told
all_told source_tells source_counts sink disk = record {
  source = source_tells;
  sink = sink.tells;
  disk = disk.tells;
  images = disk.tells_images;
  sink_memory = sink.takes_memory;
  disk_memory = disk.takes_memory;
  source_counts = source_counts;
  sink_counts = sink.counts_failures;
  disk_counts = disk.counts_failures;
}

-- what the devices of a run tell
abbrev pub told_of : {S K D : Type 0} → Devices S K D → Told
told_of devices =
    all_told devices.source.tells devices.source.counts_failures devices.sink devices.disk

-- the ends of each session
abbrev pub sessions_ends : {S K D : Type 0} → Devices S K D → List (Session S K)
    → List (Session S K) → List SessionEnds
sessions_ends devices (old ∷ olds) (new ∷ news) = record {
  source = devices.source.view old.source;
  source_after = devices.source.view new.source;
  sink = devices.sink.view old.sink;
  sink_after = devices.sink.view new.sink;
} ∷ sessions_ends devices olds news
sessions_ends devices [] news = []
sessions_ends devices (old ∷ olds) [] = []

-- the ends of a disk
abbrev pub disk_ends : {D : Type 0} → disk_trait.Ghosts D → (old new : D) → DiskEnds
disk_ends disks old new = record { before = disks.view old; after = disks.view new }

-- the ends of a volume
abbrev pub volume_ends : {D : Type 0} → disk_trait.Ghosts D → (old new : Volume D) → VolumeEnds
volume_ends disks old new = record {
  log = disk_ends disks old.log new.log;
  snap_a = disk_ends disks old.snap_a new.snap_a;
  snap_b = disk_ends disks old.snap_b new.snap_b;
}

-- the ends of each volume
abbrev pub volumes_ends : {D : Type 0} → disk_trait.Ghosts D → List (Volume D) → List (Volume D)
    → List VolumeEnds
volumes_ends disks (old ∷ olds) (new ∷ news) =
    volume_ends disks old new ∷ volumes_ends disks olds news
volumes_ends disks [] news = []
volumes_ends disks (old ∷ olds) [] = []

-- the log of a volume was not put at risk: a crash now, or at any moment since the run began,
-- leaves no more of it than what one before might have left, or an opening
pub record IsSafe {D : Type 0} (disks : disk_trait.Ghosts D) (old new : Volume D) : Type 0 where
  pub now : 1 < length (disks.view old.log).contents → (image : List ℕ)
      → disks.images new.log image → disks.images old.log image
  pub ever : (image : List ℕ) → disks.since new.log (disks.view old.log).moment image
      → LeftByOpening (disks.view old.log).contents (disks.images old.log) image

-- what crashes may leave of the log of each partition, by its number: as the run began, now, and
-- what one might have left at some moment since one
pub record Crashes : Type 1 where
  pub before : (number : ℕ) → List ℕ → Type 0
  pub now : (number : ℕ) → List ℕ → Type 0
  pub since : (number moment : ℕ) → List ℕ → Type 0

-- what crashes may leave of the logs of these volumes, as they were at first and as they are
abbrev pub crashes_of : {D : Type 0} → disk_trait.Ghosts D → (before now : List (Volume D))
    → Crashes
crashes_of disks before now = record {
  before = λ number image. OfNumber before number (λ volume. disks.images volume.log image);
  now = λ number image. OfNumber now number (λ volume. disks.images volume.log image);
  since = λ number moment image.
      OfNumber now number (λ volume. disks.since volume.log moment image);
}

-- the ends of a run's sessions and volumes, as they were handed in and handed back
abbrev pub ends_of : {S K D : Type 0} → Devices S K D
    → (sessions sessions_after : List (Session S K)) → (volumes volumes_after : List (Volume D))
    → RunEnds
ends_of devices sessions sessions_after volumes volumes_after = record {
  sessions = sessions_ends devices sessions sessions_after;
  volumes = volumes_ends devices.disk volumes volumes_after;
}

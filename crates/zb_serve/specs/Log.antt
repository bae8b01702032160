-- A partition's log in a run.
use Rattle.std.specs.Prelude.{◌≡◌, ◌⊎◌, ◌<◌, ◌≤◌, ◌+◌, ℕ, List, [], ◌∷◌, ◌++◌, length, sum_by}
use Rattle.std.specs.Prelude.{IsTrue, Bool, true, false, Option, Some, None}
use Rattle.std.specs.List.{AllZip}
use Rattle.zb_model.specs.declared.record.Batch.{Batch}
use Rattle.zb_model.specs.RecordFits.{IsBatch}
use Rattle.zb_store.specs.Calls.{IsByFirstCall}
use Rattle.zb_rules.specs.Step.{IsStep, AreStepsOn}
use Rattle.zb_world.specs.Entries.{is_of, part_of}
use Rattle.zb_world.specs.declared.entry.Entry.{Entry}
use Rattle.zb_partition.specs.Log.{StandsFor, frame_size, length_behind, AreBatches}
use Rattle.zb_partition.specs.Ground.{Found, IsFoundIn, IsLogOn}
use Rattle.zb_partition.specs.Stopping.{frame_of}
use Rattle.zb_desk.specs.Numbered.{OfNumber}
use Rattle.zb_desk.specs.Serial.{log_behind}
use Rattle.zb_partition.specs.Ledger.{IsFront}
use Rattle.zb_serve.specs.Ends.{VolumeEnds, AnySlot, HasRisen, RunEnds, Told, Crashes}
use Rattle.zb_serve.specs.Setting.{RunSetting}
use Rattle.zb_serve.specs.Cause.{cuts_off}
use Rattle.zb_serve.specs.declared.run.Cause.{Cause}
use Rattle.zb_serve.specs.declared.run.Cause.TheVariants as causes

-- a run that came to its end: what its devices tell, what it went by, how many partitions it has,
-- the entries that it made, by their places, the entry that was made last and isn't in its log, if
-- there is one, and why it ended
pub record Course : Type 0 where
  pub told : Told
  pub setting : RunSetting
  pub partitions : ℕ
  pub entries : List Entry
  pub unlogged : Option Entry
  pub cause : Cause

-- the end of a run, by its parts
abbrev pub course_of : Told → RunSetting → ℕ → List Entry → Option Entry → Cause → Course
course_of told setting partitions entries unlogged cause = record {
  told = told;
  setting = setting;
  partitions = partitions;
  entries = entries;
  unlogged = unlogged;
  cause = cause;
}

-- a log as the run opened it: what was found of it, and the moment of its disk at which it was open
pub record OpenedLog : Type 0 where
  pub found : Found
  pub moment : ℕ

-- each of these logs goes on from what was found of it
abbrev pub AreLogsOn : List OpenedLog → List (List Batch) → Type 0
AreLogsOn opened logs = AllZip (λ one log. IsLogOn one.found log) opened logs

-- how many batches a log had when it was opened
abbrev pub count_found : OpenedLog → ℕ
count_found opened = opened.found.ground.frames + length opened.found.tail

-- the place of a run's first entry, which is behind all batches that its logs had
abbrev pub place_found : List OpenedLog → ℕ
place_found opened = sum_by count_found opened

-- the log of the partition with this number, with all that the run added
abbrev pub log_in : Course → (number : ℕ) → List Batch → List Batch
log_in course number log = log_behind number log course.entries

-- how long it is then
abbrev pub length_in : Course → (number : ℕ) → OpenedLog → ℕ
length_in course number opened =
    length_behind opened.found.length (part_of number course.entries)

-- the batch of an entry, where it is one of this partition
abbrev pub batch_if : Bool → Batch → Option Batch
batch_if true batch = Some batch
batch_if false batch = None

-- the batch that was made last and isn't in the log of the partition with this number
abbrev pub batch_of : ℕ → Option Entry → Option Batch
batch_of number None = None
batch_of number (Some entry) = batch_if (is_of number entry) entry.batch

-- the disk of a log failed, or its calls take memory, and the cause cut the run off
abbrev pub IsDiskHurt : Told → VolumeEnds → Cause → Type 0
IsDiskHurt told ends cause = HasRisen ends.log
    ⊎ (IsTrue told.disk_memory × IsTrue (cuts_off cause))

-- a file stands for the log, or, where the disk was hurt, for the log and the batch that was in
-- writing, which fits its spelling
abbrev pub IsKept : Told → VolumeEnds → Cause → Option Batch → List Batch → List ℕ → Type 0
IsKept told ends cause unlogged log file = StandsFor file log
    ⊎ (((batch : Batch) × (unlogged ≡ Some batch) × IsBatch batch
    × StandsFor file (log ++ batch ∷ []))
    × IsDiskHurt told ends cause)

-- a file is what the run left of the log of the partition with this number
abbrev pub IsLeftOf : Course → (number : ℕ) → VolumeEnds → List Batch → List ℕ → Type 0
IsLeftOf course number ends log file =
    IsKept course.told ends course.cause (batch_of number course.unlogged)
    (log_in course number log) file

-- A disk of a volume, whose log is so long, may be named with this batch: that of the log failed
-- while the batch was being written, for which there was room. With none one of the slots failed.
abbrev pub IsDiskNamed : (limit length_is : ℕ) → VolumeEnds → Option Batch → Type 0
IsDiskNamed limit length_is ends (Some batch) = HasRisen ends.log
    × (length_is + frame_size batch ≤ limit)
IsDiskNamed limit length_is ends None = AnySlot HasRisen ends

-- the volume of the partition with this number in a run, whatever batches its log has
pub record IsVolume (course : Course) (crashes : Crashes) (number : ℕ) (ends : VolumeEnds)
    (opened : OpenedLog) : Type 0 where
  -- this was found in its file
  pub found : IsFoundIn number course.told.disk ends.log.before.contents opened.found
  -- its log was open from the first call of the disk on
  pub by_first : IsTrue course.told.images → IsByFirstCall ends.log.before.moment opened.moment
  -- what a crash left before, since the run began, is what one before the run might have left
  pub crash_opening : IsTrue course.told.images → (image : List ℕ)
      → crashes.since number ends.log.before.moment image
      → crashes.before number image ⊎ crashes.since number opened.moment image
  -- a disk is named only where it failed, with the batch that was being written, if there is one
  pub disk_fault : (batch : Option Batch) → course.cause ≡ causes.DiskFault number batch
      → (batch ≡ batch_of number course.unlogged)
      × IsDiskNamed course.setting.limit (length_in course number opened) ends batch
  -- what was added to the log fits, and it is called full only where the frame of the batch that
  -- was made next doesn't
  pub fits : (part_of number course.entries ≡ [])
      ⊎ (length_in course number opened ≤ course.setting.limit)
  pub log_full : (length_told frame most : ℕ)
      → course.cause ≡ causes.LogFull number length_told frame most
      → (length_told ≡ length_in course number opened)
      × (most ≡ course.setting.limit) × (most < length_told + frame)
      × ((batch : Batch) × (batch_of number course.unlogged ≡ Some batch)
      × (frame ≡ frame_of batch))

-- what the run added to a log of the partition with this number, and what crashes leave of it
pub record IsLog (course : Course) (crashes : Crashes) (number : ℕ) (ends : VolumeEnds)
    (opened : OpenedLog) (log : List Batch) : Type 0 where
  -- all its batches fit their spelling, so it is the one that its file stands for
  pub fit : AreBatches (log_in course number log)
  -- each batch that was added is a step on those before it, and so is the one that isn't in it
  pub steps : AreStepsOn number course.partitions log (part_of number course.entries)
  pub next : (batch : Batch) → batch_of number course.unlogged ≡ Some batch
      → IsStep number course.partitions (log_in course number log) batch
  -- the file stands for all of them
  pub contents : IsTrue course.told.disk
      → IsLeftOf course number ends log ends.log.after.contents
  -- what a crash now leaves stands for the log
  pub crash_now : IsTrue course.told.images → (image : List ℕ) → crashes.now number image
      → IsLeftOf course number ends log image
  -- one at any moment since it was opened left no more than that, or a front of the log
  pub crash_ever : IsTrue course.told.images → (image : List ℕ)
      → crashes.since number opened.moment image
      → IsFront log (part_of number course.entries) image
      ⊎ IsLeftOf course number ends log image

-- this is so of the volume with that number
abbrev pub IsLogIn : Course → RunEnds → Crashes → (number : ℕ) → OpenedLog → List Batch → Type 0
IsLogIn course ends crashes number opened log =
    OfNumber ends.volumes number (λ volume. IsLog course crashes number volume opened log)

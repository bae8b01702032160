-- A run of one session: its ends, the causes that they are told as, and what its partitions leave.
use Rattle.std.specs.Prelude.{ℕ, List, [], ◌∷◌, Bool, true, false, Option, Some, None}
use Rattle.std.specs.Option.{option_or}
use Rattle.zb_disk.specs.declared.disk.Disk.{Ghosts}
use Rattle.zb_model.specs.declared.record.Batch.{Batch}
use Rattle.zb_model.specs.declared.stop.Stop.{Stop}
use Rattle.zb_model.specs.declared.stop.Stop.TheVariants as stops
use Rattle.zb_store.specs.declared.volume.Volume.{Volume}
use Rattle.zb_partition.specs.Partition.{disk_of, slots_of, in_writing}
use Rattle.zb_partition.specs.declared.partition.Partition.{Partition}
use Rattle.zb_words.specs.declared.plan.ClockKind.{ClockKind}
use Rattle.zb_words.specs.declared.plan.ClockKind.TheVariants as kinds
use Rattle.zb_session.specs.Session.{SessionEnds}
use Rattle.zb_session.specs.declared.session.End.{End}
use Rattle.zb_session.specs.declared.session.End.TheVariants as ends
use Rattle.zb_serve.specs.Ends.{VolumeEnds, RunEnds}
use Rattle.zb_serve.specs.declared.run.Cause.{Cause}
use Rattle.zb_serve.specs.declared.run.Cause.TheVariants as causes

-- the ends of the one session, and those of the volumes
abbrev pub ends_alone : SessionEnds → List VolumeEnds → RunEnds
ends_alone session volumes = record { sessions = session ∷ []; volumes = volumes }

-- the files of a partition
abbrev pub files_of : {D : Type 0} {disks : Ghosts D} → Partition D disks → Volume D
files_of partition = record {
  log = disk_of partition;
  snap_a = (slots_of partition).0;
  snap_b = (slots_of partition).1;
}

-- the batch that the first of these partitions was writing that was writing one
abbrev pub first_writing : {D : Type 0} {disks : Ghosts D} → List (Partition D disks)
    → Option Batch
first_writing [] = None
first_writing (partition ∷ partitions) = option_or (in_writing partition) (first_writing partitions)

-- the cause that a stop of a partition is told as, with the batch that was in writing
abbrev pub stop_cause_of : Option Batch → Option (ℕ × Stop) → Cause
stop_cause_of in_writing (Some (partition, stops.DiskFault)) = causes.DiskFault partition in_writing
stop_cause_of in_writing (Some (partition, stops.LogFull length_told frame limit)) =
    causes.LogFull partition length_told frame limit
stop_cause_of in_writing (Some (partition, stops.Memory)) = causes.Memory
stop_cause_of in_writing None = causes.Memory

-- the cause of a run whose one session ended so, with the stop of a partition, if there was one,
-- and the batch that was in writing
abbrev pub cause_of : Option Batch → Option (ℕ × Stop) → End → Cause
cause_of in_writing stop ends.Done = causes.Done
cause_of in_writing stop ends.SourceFault = causes.SourceFault 1
cause_of in_writing stop ends.SinkFault = causes.SinkFault 1
cause_of in_writing stop ends.InputFull = causes.InputFull 1
cause_of in_writing stop ends.Memory = causes.Memory
cause_of in_writing stop ends.Stopped = stop_cause_of in_writing stop

-- the partition whose disk failed, where that ended the run
abbrev pub failed_at : End → Option (ℕ × Stop) → Option ℕ
failed_at ends.Stopped (Some (partition, stops.DiskFault)) = Some partition
failed_at end stop = None

-- a line was cut off where memory ran out, or where the engine stopped
abbrev pub is_cut : End → Bool
is_cut ends.Memory = true
is_cut ends.Stopped = true
is_cut ends.Done = false
is_cut ends.SourceFault = false
is_cut ends.SinkFault = false
is_cut ends.InputFull = false

-- whether a run goes by a clock that is moved by hand
abbrev pub is_by_hand : ClockKind → Bool
is_by_hand kinds.Manual = true
is_by_hand kinds.Real = false

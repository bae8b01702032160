-- The order of the causes of a run: of those that were met the first is told.
use Rattle.std.specs.Prelude.{◌≡◌, ◌<◌, ◌+◌, ℕ, length, Bool, false, IsTrue, Some}
use Rattle.zb_model.specs.declared.record.Batch.{Batch}
use Rattle.zb_partition.specs.Log.{frame_size}
use Rattle.zb_desk.specs.Numbered.{OfNumber}
use Rattle.zb_session.specs.Session.{most_taken}
use Rattle.zb_serve.specs.Ends.{DiskEnds, RunEnds, AnyDisk}
use Rattle.zb_serve.specs.Log.{Course, length_in, batch_of}
use Rattle.zb_serve.specs.Parts.{RunParts}
use Rattle.zb_serve.specs.declared.run.Cause.{Cause}
use Rattle.zb_serve.specs.declared.run.Cause.TheVariants as causes

-- a call of a device failed, as its count tells where it counts nothing but failures
abbrev pub HasFailed : Bool → (before after : ℕ) → Type 0
HasFailed counts_failures before after = IsTrue counts_failures × (before < after)

-- a call of a disk did
abbrev pub HasDiskFailed : Bool → DiskEnds → Type 0
HasDiskFailed counts_failures ends =
    HasFailed counts_failures ends.before.faults ends.after.faults

-- a run with these ends and parts met this cause, whether it was told or not. Want of memory leaves
-- no trace.
abbrev pub WasMet : Course → RunEnds → RunParts → Cause → Type 0
WasMet course ends parts (causes.DiskFault partition batch) =
    OfNumber ends.volumes partition (AnyDisk (HasDiskFailed course.told.disk_counts))
WasMet course ends parts (causes.LogFull partition length_told frame most) = (batch : Batch)
    × (batch_of partition course.unlogged ≡ Some batch)
    × OfNumber parts.opened partition
    (λ opened. course.setting.limit < length_in course partition opened + frame_size batch)
WasMet course ends parts causes.Memory = ⊥
WasMet course ends parts (causes.SourceFault session) =
    OfNumber ends.sessions session
    (λ stream. HasFailed course.told.source_counts stream.source.faults stream.source_after.faults)
WasMet course ends parts (causes.SinkFault session) =
    OfNumber ends.sessions session
    (λ stream. HasFailed course.told.sink_counts stream.sink.faults stream.sink_after.faults)
WasMet course ends parts (causes.InputFull session) =
    OfNumber parts.runs session (λ run. (length run.taken ≡ most_taken) × (run.ended ≡ false))
WasMet course ends parts causes.Done = Unit {0}
WasMet course ends parts causes.Usage = ⊥
WasMet course ends parts (causes.BadLog partition frame) = ⊥

-- What a run of the server is.
use Rattle.std.specs.Prelude.{◌≡◌, ◌⊎◌, ◌<◌, ◌≤◌, ◌+◌, ℕ, List, [], ◌∷◌, ◌++◌, length, drop}
use Rattle.std.specs.Prelude.{All, IsTrue, IsFalse, IsSome, IfSome, Option, Some, None, Ok}
use Rattle.std.specs.List.{flat_map, AllByRecursion}
use Rattle.zb_model.specs.declared.record.Batch.{Batch}
use Rattle.zb_world.specs.Entries.{IsPartitionOf, parts_of, stamps_of}
use Rattle.zb_world.specs.declared.entry.Entry.{Entry}
use Rattle.zb_world.specs.History.{IsHistory}
use Rattle.zb_wire.specs.declared.request.Request.{Request}
use Rattle.zb_wire.specs.Request.{request_of}
use Rattle.zb_partition.specs.Log.{IsBadAt}
use Rattle.zb_desk.specs.Numbered.{EachFrom, OfNumber}
use Rattle.zb_desk.specs.Serial.{Basis, basis_of, next_unit, IsNextEntry, AreMadeFor}
use Rattle.zb_desk.specs.Serial.{IsNextUnit, AreUnits}
use Rattle.zb_session.specs.Hours.{given_of, moved_by, IsReadingOf}
use Rattle.zb_session.specs.Answer.{Answer, found_in, entries_made, AreSerial}
use Rattle.zb_session.specs.Session.{SessionRun}
use Rattle.zb_serve.specs.Ends.{RunEnds, VolumeEnds, Told, Crashes}
use Rattle.zb_serve.specs.Ends.{EachDisk, AnySlot, AnyDisk, HasRisen, IsSteady, IsUncalled}
use Rattle.zb_serve.specs.Cause.{comes_before, cuts_off}
use Rattle.zb_serve.specs.Parts.{RunParts}
use Rattle.zb_serve.specs.Order.{WasMet}
use Rattle.zb_serve.specs.Setting.{RunSetting}
use Rattle.zb_serve.specs.Session.{IsSession}
use Rattle.zb_serve.specs.Log.{Course, course_of, AreLogsOn, place_found, IsVolume, IsLogIn}
use Rattle.zb_serve.specs.History.{GoesOnWith, AreCut, AreImages}
use Rattle.zb_serve.specs.declared.run.Cause.{Cause}
use Rattle.zb_serve.specs.declared.run.Cause.TheVariants as causes

-- a run with so many sessions and partitions may end so once its logs are open
abbrev pub MayEnd : ℕ → ℕ → Cause → Type 0
MayEnd sessions partitions causes.Done = Unit {0}
MayEnd sessions partitions causes.Usage = ⊥
MayEnd sessions partitions (causes.SourceFault session) = (1 ≤ session) × (session ≤ sessions)
MayEnd sessions partitions (causes.DiskFault partition batch) = IsPartitionOf partitions partition
MayEnd sessions partitions (causes.BadLog partition frame) = ⊥
MayEnd sessions partitions (causes.SinkFault session) = (1 ≤ session) × (session ≤ sessions)
MayEnd sessions partitions causes.Memory = Unit {0}
MayEnd sessions partitions (causes.LogFull partition length_told frame limit) =
    IsPartitionOf partitions partition
MayEnd sessions partitions (causes.InputFull session) = (1 ≤ session) × (session ≤ sessions)

-- an entry begins at this place, or at a later one
abbrev pub BeginsFrom : ℕ → Entry → Type 0
BeginsFrom first entry = first ≤ entry.batch.begin

-- all answers of a run, one session's behind the other's
abbrev pub answers_of : List SessionRun → List Answer
answers_of runs = flat_map (λ run. run.answers) runs

-- nothing that was begun was left undone
abbrev pub IsNoneLeft : Course → RunParts → Type 0
IsNoneLeft course parts = (parts.rest ≡ []) × (course.unlogged ≡ None)

-- what may leave a line undone: the disk failed or the log was full at what was made for it, or
-- a slot for snapshots failed, or memory ran out
abbrev pub IsWhyUndone : Cause → List VolumeEnds → Option Entry → Type 0
IsWhyUndone (causes.DiskFault partition batch) volumes unlogged =
    IsSome unlogged ⊎ OfNumber volumes partition (AnySlot HasRisen)
IsWhyUndone (causes.LogFull partition length_told frame limit) volumes unlogged = IsSome unlogged
IsWhyUndone causes.Memory volumes unlogged = Unit {0}
IsWhyUndone causes.Done volumes unlogged = ⊥
IsWhyUndone causes.Usage volumes unlogged = ⊥
IsWhyUndone (causes.SourceFault session) volumes unlogged = ⊥
IsWhyUndone (causes.BadLog partition frame) volumes unlogged = ⊥
IsWhyUndone (causes.SinkFault session) volumes unlogged = ⊥
IsWhyUndone (causes.InputFull session) volumes unlogged = ⊥

-- what a run goes by that goes on with these logs
abbrev pub basis_in_run : Course → List (List Batch) → Basis
basis_in_run course logs = basis_of logs course.setting.units

-- a line was read and not answered, the first one that its session has not served: its request, at
-- a reading of the clock, made the rest behind the entries of all answers, and the one that isn't
-- in its log, if there is one
pub record IsUnfinished (course : Course) (basis : Basis) (parts : RunParts)
    (run : SessionRun) : Type 0 where
  pub line : List ℕ
  pub lines : List (List ℕ)
  pub first : run.unserved ≡ line ∷ lines
  pub request : Request
  pub asks : request_of
      (given_of course.setting.hours course.partitions (length run.served + 1)) line ≡ Ok request
  pub reading : ℕ
  pub read : IsReadingOf course.setting.hours (found_in (answers_of parts.runs))
      (moved_by (Ok request)) reading
  pub made : AreMadeFor basis request reading (entries_made (answers_of parts.runs)) parts.rest
  pub next : (entry : Entry) → course.unlogged ≡ Some entry → IsNextEntry basis request reading
      (entries_made (answers_of parts.runs)) parts.rest entry

-- behind all answers the units of work were done at one reading of the clock, and they were cut
-- off, with the one that isn't in its log, if there is one
pub record IsUnfinishedWork (course : Course) (basis : Basis) (parts : RunParts) : Type 0 where
  pub reading : ℕ
  pub read : IsReadingOf course.setting.hours (found_in (answers_of parts.runs)) 0 reading
  pub made : AreUnits basis reading (entries_made (answers_of parts.runs)) parts.closing
  pub next : (entry : Entry) → course.unlogged ≡ Some entry
      → IsNextUnit basis reading (entries_made (answers_of parts.runs)) parts.closing entry

-- nothing was left undone; or the first unserved line of one of the sessions, and no unit was done
-- behind it; or units of work behind the last line
abbrev pub IsUndone : Course → Basis → RunParts → Type 0
IsUndone course basis parts = IsNoneLeft course parts
    ⊎ (((parts.closing ≡ [])
    × ((number : ℕ) × OfNumber parts.runs number (IsUnfinished course basis parts)))
    ⊎ ((parts.rest ≡ []) × IsUnfinishedWork course basis parts))

-- the units of work behind the last line: none, or these, at one reading of the clock
abbrev pub AreClosing : Course → Basis → RunParts → Type 0
AreClosing course basis parts = (parts.closing ≡ [])
    ⊎ ((reading : ℕ)
    × IsReadingOf course.setting.hours (found_in (answers_of parts.runs)) 0 reading
    × AreUnits basis reading (entries_made (answers_of parts.runs)) parts.closing)

-- what a run answered: its cause, the stamps of each partition, and how many units of work were
-- done behind the last line
pub record RunAnswer : Type 0 where
  pub cause : Cause
  pub stamps : List (List ℕ)
  pub units : ℕ

-- what a run answered, by its parts
abbrev pub answer_of_run : Cause → List (List ℕ) → ℕ → RunAnswer
answer_of_run cause stamps units = record { cause = cause; stamps = stamps; units = units }

-- a run with these ends and parts goes on with these logs
pub record RunsOn (course : Course) (ends : RunEnds) (crashes : Crashes) (parts : RunParts)
    (logs : List (List Batch)) : Type 0 where
  -- each log has what it had, and behind it the batches of its partition's entries
  pub are_logs : EachFrom (IsLogIn course ends crashes) 1 parts.opened logs
  -- the entries are one history of the engine with the logs, where these were one: each is a step
  -- of its partition, and no message is correlated twice with a process, no job ends twice
  pub history : GoesOnWith course.partitions logs course.entries
  -- they are those of the serial run
  pub serial : AreSerial course.setting.hours (basis_in_run course logs) (answers_of parts.runs)
  pub delivered : AreClosing course (basis_in_run course logs) parts
  pub undone : IsUndone course (basis_in_run course logs) parts
  -- where nothing cut the run off every game is quiet at its end, or as many units were done as may
  -- be
  pub settled : IsFalse (cuts_off course.cause)
      → next_unit (basis_in_run course logs) parts.closing course.entries ≡ None
  -- what a crash now leaves of all logs is a cut of the history at its end: all of it, and of a
  -- partition at most one step more
  pub crash_cut : IsTrue course.told.images → (base : List Entry) → IsHistory course.partitions base
      → parts_of course.partitions base ≡ logs → (kept : List (List ℕ))
      → length kept ≡ course.partitions
      → AreImages crashes.now kept → AreCut course.partitions (base ++ course.entries) kept

-- a run whose logs were opened, with these ends, what crashes leave of its logs, and its answer
pub record Serves (course : Course) (ends : RunEnds) (crashes : Crashes) (stamps : List (List ℕ))
    (units : ℕ) : Type 0 where
  pub parts : RunParts
  -- the causes that there are, and no cause that is told before it was met
  pub status : MayEnd (length ends.sessions) course.partitions course.cause
  pub first_met : (other : Cause) → WasMet course ends parts other
      → IsFalse (comes_before other course.cause)
  -- the entries are of the partitions, which have their places as stamps, from the count of all
  -- batches that the logs had on
  pub within : All (λ entry. IsPartitionOf course.partitions entry.partition) course.entries
  pub stamped : stamps
      ≡ stamps_of course.partitions (place_found parts.opened) course.entries
  -- none of them begins at a place before that count, nor does the one that isn't in its log
  pub begun : All (BeginsFrom (place_found parts.opened)) course.entries
      × IfSome course.unlogged (BeginsFrom (place_found parts.opened))
  -- what was found in each volume, which disk is named, and how long each log is
  pub volumes : EachFrom (IsVolume course crashes) 1 ends.volumes parts.opened
  -- the lines that were served, and the reply to each, by its entries
  pub sessions : EachFrom (IsSession course) 1 ends.sessions parts.runs
  -- the entries are those of the served lines, of one that was not answered, and the units behind
  -- the last, and no others
  pub all : course.entries ≡ entries_made (answers_of parts.runs) ++ (parts.rest ++ parts.closing)
  -- something was left undone only for a reason that the cause tells
  pub why : IsNoneLeft course parts ⊎ IsWhyUndone course.cause ends.volumes course.unlogged
  -- the number of units behind the last line is told where nothing cut the run off
  pub worked : IsFalse (cuts_off course.cause) → units ≡ length parts.closing
  pub unworked : IsTrue (cuts_off course.cause) → units ≡ 0
  -- with all logs that go on from what was found the run goes on so
  pub runs_on : (logs : List (List Batch)) → AreLogsOn parts.opened logs
      → RunsOn course ends crashes parts logs

-- no call of a volume's disks failed, as their counts tell
abbrev pub IsUntroubled : Told → VolumeEnds → Type 0
IsUntroubled told ends = IsTrue told.disk_counts → EachDisk IsSteady ends

-- the log of the partition with this number can be read, and no call of its volume's disks failed
pub record IsGood (told : Told) (number : ℕ) (ends : VolumeEnds) : Type 0 where
  pub untroubled : IsUntroubled told ends
  pub readable : IsTrue told.disk → (frame : ℕ)
      → IsBadAt number ends.log.before.contents frame → ⊥

-- Logs are opened in the order of their partitions, up to this one: each one below it is good, and
-- each one above it is as it was.
pub record AreOpenedTo (told : Told) (volumes : List VolumeEnds) (partition : ℕ) : Type 0 where
  pub below : (number : ℕ) → 1 ≤ number → number < partition
      → OfNumber volumes number (IsGood told number)
  pub above : AllByRecursion (EachDisk IsUncalled) (drop partition volumes)

-- Opening ended the run: at the first volume of which a disk failed or whose log has a frame that
-- can't be read, or since there was no memory.
abbrev pub FailsToOpen : Told → List VolumeEnds → Cause → Type 0
FailsToOpen told volumes (causes.DiskFault partition batch) = (batch ≡ None)
    × OfNumber volumes partition (AnyDisk HasRisen)
    × AreOpenedTo told volumes partition
FailsToOpen told volumes (causes.BadLog partition frame) =
    OfNumber volumes partition
    (λ ends. IsTrue told.disk → IsBadAt partition ends.log.before.contents frame)
    × AreOpenedTo told volumes partition
    × AllByRecursion (IsUntroubled told) volumes
FailsToOpen told volumes causes.Memory = ((partition : ℕ) × AreOpenedTo told volumes partition)
    × AllByRecursion (IsUntroubled told) volumes
FailsToOpen told volumes causes.Done = ⊥
FailsToOpen told volumes causes.Usage = ⊥
FailsToOpen told volumes (causes.SourceFault session) = ⊥
FailsToOpen told volumes (causes.SinkFault session) = ⊥
FailsToOpen told volumes (causes.LogFull partition length_told frame limit) = ⊥
FailsToOpen told volumes (causes.InputFull session) = ⊥

-- a log longer than one byte is as it was, and any other has at most one byte still
abbrev pub IsSpared : Told → VolumeEnds → Type 0
IsSpared told ends = IsTrue told.disk
    → (1 < length ends.log.before.contents
    → ends.log.after.contents ≡ ends.log.before.contents)
    × (length ends.log.before.contents ≤ 1 → length ends.log.after.contents ≤ 1)

-- a run whose logs were opened came to its end with this answer
abbrev pub HasRun : Told → RunSetting → RunEnds → Crashes → RunAnswer → Type 0
HasRun told setting ends crashes answer = (entries : List Entry) × (unlogged : Option Entry)
    × Serves (course_of told setting (length ends.volumes) entries unlogged answer.cause)
    ends crashes answer.stamps answer.units

-- a run of planned words, by its stamps: its logs were opened, and then it has stamps for each of
-- them, or they weren't
abbrev pub IsRunBy : List (List ℕ) → Told → RunSetting → RunEnds → Crashes → RunAnswer → Type 0
IsRunBy [] told setting ends crashes answer = FailsToOpen told ends.volumes answer.cause
    × AllByRecursion (IsSpared told) ends.volumes × (answer.units ≡ 0)
IsRunBy (first ∷ more) told setting ends crashes answer = HasRun told setting ends crashes answer

-- a run of planned words
abbrev pub IsRun : Told → RunSetting → RunEnds → Crashes → RunAnswer → Type 0
IsRun told setting ends crashes answer = IsRunBy answer.stamps told setting ends crashes answer

-- A session under way: what it began with, and what it has come to.
use Rattle.std.specs.Prelude.{◌≡◌, ◌⊎◌, ◌≤◌, ◌+◌, ℕ, List, [], ◌∷◌, ◌++◌, length, take, Bool, true, false, IsTrue, Option, Some, None, Result, Ok, Err}
use Rattle.std.specs.List.{flat_map, AllByRecursion}
use Rattle.zb_outside.specs.Cause.{StreamFaultsRose}
use Rattle.zb_outside.specs.Stream.{SourceView, SinkView}
use Rattle.zb_outside.specs.declared.trouble.Trouble.{Trouble}
use Rattle.zb_outside.specs.declared.trouble.Trouble.TheVariants as troubles
use Rattle.zb_lines.specs.Taken.{TakesBytes}
use Rattle.zb_lines.specs.Line.{IsOneLine, ended}
use Rattle.zb_lines.specs.declared.reader.Next.{Next}
use Rattle.zb_lines.specs.declared.reader.Next.TheVariants as nexts
use Rattle.zb_world.specs.declared.entry.Entry.{Entry}
use Rattle.zb_wire.specs.declared.given.Given.{Given}
use Rattle.zb_wire.specs.declared.request.Request.{Request}
use Rattle.zb_wire.specs.declared.request.LineFault.{LineFault}
use Rattle.zb_wire.specs.Request.{request_of}
use Rattle.zb_desk.specs.Numbered.{EachFrom}
use Rattle.zb_desk.specs.Serial.{Basis}
use Rattle.zb_desk.specs.declared.desk.Desk.{Ghosts}
use Rattle.zb_session.specs.Hours.{Hours, manual, real, given_of, clock_after, requests_in}
use Rattle.zb_session.specs.Answer.{Answer, IsAnswer, found_in, entries_made, IsServed, AreSerial}
use Rattle.zb_session.specs.Session.{Streams, SessionEnds, session_ends, Before, replies_of, most_taken, IsCutLine, CutsOff, Facts, facts_of, IsLeftUndone, LeavesDesk, SessionRun, HasServed}
use Rattle.zb_session.specs.declared.session.End.{End}
use Rattle.zb_session.specs.declared.session.End.TheVariants as ends

-- what the clock that is moved by hand stands at as a run begins, if there is one
abbrev pub dial_of : Bool → Option ℕ
dial_of true = Some 0
dial_of false = None

-- the clocks: what the one that is moved by hand stands at, if there is one, and what the real one is to read, if it tells that
pub record Clocks : Type 0 where
  pub dial : Option ℕ
  pub tells : Bool
  pub upcoming : ℕ → ℕ

-- the clocks of a run, by what they stand at and are to read
abbrev pub clocks_of : Option ℕ → Bool → (ℕ → ℕ) → Clocks
clocks_of dial tells upcoming = record { dial = dial; tells = tells; upcoming = upcoming }

-- the clocks stand so behind lines that were found to be these: the real one has been read once for each request
abbrev pub AreAt : Hours → List (Result Request LineFault) → Clocks → Type 0
AreAt manual found clocks = clocks.dial ≡ Some (clock_after found)
AreAt (real tells upcoming) found clocks = (clocks.dial ≡ None) × (tells ≡ clocks.tells)
    × ((k : ℕ) → clocks.upcoming k ≡ upcoming (k + requests_in found))

-- what a session began with: the clock of the run, what the desk goes by, and its streams
pub record Began : Type 0 where
  pub hours : Hours
  pub basis : Basis
  pub source : SourceView
  pub sink : SinkView

-- what it began with, by its parts
abbrev pub began_of : Hours → Basis → SourceView → SinkView → Began
began_of hours basis source sink = record { hours = hours; basis = basis; source = source; sink = sink }

-- what is known of a desk that began so
abbrev pub facts_by : {A : Type 0} (desks : Ghosts A) → desks.Begun → A → Facts
facts_by desks begun desk = facts_of (λ made. desks.has begun made desk) (λ made left stop. desks.stopped begun made left stop desk)

-- what a line is served with: the sink, the clocks, and what is known of the desk
pub record Service : Type 1 where
  pub sink : SinkView
  pub clocks : Clocks
  pub known : Facts

-- what serves, by its parts
abbrev pub service_of : SinkView → Clocks → Facts → Service
service_of sink clocks known = record { sink = sink; clocks = clocks; known = known }

-- what a session has come to: its source, what it is served with, the bytes that were taken and not served, how many may
-- still be taken, and the number of the line that comes next
pub record Stand : Type 1 where
  pub source : SourceView
  pub service : Service
  pub held : List ℕ
  pub budget : ℕ
  pub number : ℕ

-- what it has come to, by its parts
abbrev pub stand_of : SourceView → Service → (held : List ℕ) → (budget number : ℕ) → Stand
stand_of source service held budget number = record { source = source; service = service; held = held; budget = budget; number = number }

-- a session's streams, as it began and as they are
abbrev pub sides_of : Began → SourceView → SinkView → SessionEnds
sides_of began source sink = session_ends began.source source began.sink sink

-- the streams haven't failed since the run began, as their counts tell where they count nothing but failures
pub record AreSteady (streams : Streams) (source source_now : SourceView) (sink sink_now : SinkView) : Type 0 where
  pub source_later : source.faults ≤ source_now.faults
  pub sink_later : sink.faults ≤ sink_now.faults
  pub source_same : IsTrue streams.source_counts → source_now.faults ≡ source.faults
  pub sink_same : IsTrue streams.sink_counts → sink_now.faults ≡ sink.faults

-- every line before the one with this number was served
pub record IsServing (streams : Streams) (began : Began) (now : Stand) : Type 0 where
  pub taken : List ℕ
  pub lines : List (List ℕ)
  pub answers : List Answer
  pub takes : TakesBytes streams.source_tells began.source now.source taken
  pub spent : length taken + now.budget ≡ most_taken
  pub whole : taken ≡ flat_map ended lines ++ now.held
  pub each : AllByRecursion IsOneLine lines
  pub count : now.number ≡ length lines + 1
  pub unended : now.source.ended ≡ began.source.ended
  pub clock : AreAt began.hours (found_in answers) now.service.clocks
  pub replied : EachFrom (λ n. IsAnswer (given_of began.hours (length began.basis.logs) n)) 1 lines answers
  pub serial : AreSerial began.hours began.basis answers
  pub sent : IsTrue streams.sink_tells → now.service.sink.written ≡ began.sink.written ++ replies_of answers
  pub holds : now.service.known.has (entries_made answers)
  pub steady : AreSteady streams began.source now.source began.sink now.service.sink

-- what lies before the line with this number, by its parts
abbrev pub before_of : Hours → Basis → (number : ℕ) → List Answer → Before
before_of hours basis number answers = record { hours = hours; basis = basis; number = number; answers = answers }

-- what the line is read by that comes next
abbrev pub given_at : Before → Given
given_at before = given_of before.hours (length before.basis.logs) before.number

-- a line comes next, of which as much was kept as shows its request
pub record ComesNext (before : Before) (clocks : Clocks) (known : Facts) (line shown : List ℕ) : Type 0 where
  pub clock : AreAt before.hours (found_in before.answers) clocks
  pub holds : known.has (entries_made before.answers)
  pub same : request_of (given_at before) shown ≡ request_of (given_at before) line

-- the line was answered, and its entries are in the logs
pub record IsAnswered (before : Before) (line reply : List ℕ) (clocks : Clocks) (known : Facts) : Type 0 where
  pub answer : Answer
  pub written : answer.reply ≡ reply
  pub is : IsAnswer (given_at before) line answer
  pub served : IsServed before.hours before.basis before.answers answer
  pub holds : known.has (entries_made before.answers ++ answer.entries)
  pub clock : AreAt before.hours (found_in (before.answers ++ answer ∷ [])) clocks

-- the line was not answered: nothing was done for it, or it was cut off
pub record IsUnanswered (before : Before) (line : List ℕ) (known : Facts) (end : End) : Type 0 where
  pub rest : List Entry
  pub unlogged : Option Entry
  pub undone : ((rest ≡ []) × (unlogged ≡ None)) ⊎ IsCutLine before line rest unlogged
  pub cuts : CutsOff end
  pub leaves : LeavesDesk known (entries_made before.answers ++ rest) unlogged end

-- its reply was written
pub record IsReplied (streams : Streams) (before : Before) (line : List ℕ) (old : SinkView) (new : Service) : Type 0 where
  pub reply : List ℕ
  pub answered : IsAnswered before line reply new.clocks new.known
  pub sent : IsTrue streams.sink_tells → new.sink.written ≡ old.written ++ reply

-- why a sink ends a session
abbrev pub IsSinkEnd : Bool → SinkView → SinkView → End → Type 0
IsSinkEnd takes_memory old new ends.Memory = IsTrue takes_memory
IsSinkEnd takes_memory old new ends.SinkFault = StreamFaultsRose old.faults new.faults
IsSinkEnd takes_memory old new ends.Done = ⊥
IsSinkEnd takes_memory old new ends.SourceFault = ⊥
IsSinkEnd takes_memory old new ends.InputFull = ⊥
IsSinkEnd takes_memory old new ends.Stopped = ⊥

-- its reply was not written, or a front of it, for this reason
pub record IsUnsent (streams : Streams) (before : Before) (line : List ℕ) (old : SinkView) (new : Service) (end : End) : Type 0 where
  pub reply : List ℕ
  pub answered : IsAnswered before line reply new.clocks new.known
  pub sent : IsTrue streams.sink_tells → (n : ℕ) × (new.sink.written ≡ old.written ++ take n reply)
  pub named : IsSinkEnd streams.sink_memory old new.sink end

-- a line ended the session
abbrev pub IsLineEnd : Streams → Before → List ℕ → SinkView → Service → End → Type 0
IsLineEnd streams before line old new end = IsUnsent streams before line old new end ⊎ ((new.sink ≡ old) × IsUnanswered before line new.known end)

-- a session that began so came to its end: what it served, the entries of a line that was cut off, how it left the desk,
-- and where the clocks stand unless a line was cut off
pub record IsOver (streams : Streams) (began : Began) (source : SourceView) (service : Service) (end : End) : Type 0 where
  pub run : SessionRun
  pub rest : List Entry
  pub unlogged : Option Entry
  pub served : HasServed streams began.hours began.basis (sides_of began source service.sink) run end
  pub undone : IsLeftUndone began.hours began.basis run rest unlogged end
  pub leaves : LeavesDesk service.known (entries_made run.answers ++ rest) unlogged end
  pub clock : (CutsOff end → ⊥) → AreAt began.hours (found_in run.answers) service.clocks

-- how a session goes on: to the line where it stands, or to its end
abbrev pub GoesOn : Streams → Began → Stand → Result Bool End → Type 0
GoesOn streams began now (Ok true) = IsServing streams began now
GoesOn streams began now (Ok false) = IsOver streams began now.source now.service ends.Done
GoesOn streams began now (Err end) = IsOver streams began now.source now.service end

-- more lines may come
abbrev pub goes_on : Next → Bool
goes_on nexts.Line = true
goes_on nexts.Last = false
goes_on nexts.End = false
goes_on nexts.Full = false

-- why a source ends a session
abbrev pub source_end_of : Trouble → End
source_end_of troubles.Failed = ends.SourceFault
source_end_of troubles.Memory = ends.Memory

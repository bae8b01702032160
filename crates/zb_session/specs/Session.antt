-- A session that came to its end: the lines of a source, what each led to, and the replies.
use Rattle.std.specs.Prelude.{◌≡◌, ◌⊎◌, ◌≤◌, ◌^◌, ◌+◌, ℕ, List, [], ◌∷◌, ◌++◌, length, take, Bool, true, false, IsTrue, Option, Some, None, Ok}
use Rattle.std.specs.List.{flat_map}
use Rattle.zb_model.specs.declared.stop.Stop.{Stop}
use Rattle.zb_outside.specs.Cause.{StreamFaultsRose}
use Rattle.zb_outside.specs.Stream.{SourceView, SinkView}
use Rattle.zb_outside.specs.declared.sink.Sink as sink_trait
use Rattle.zb_lines.specs.Taken.{TakesBytes}
use Rattle.zb_lines.specs.Line.{AreLines}
use Rattle.zb_world.specs.declared.entry.Entry.{Entry}
use Rattle.zb_wire.specs.declared.request.Request.{Request}
use Rattle.zb_wire.specs.Request.{request_of}
use Rattle.zb_desk.specs.Numbered.{EachFrom}
use Rattle.zb_desk.specs.Serial.{Basis, IsNextEntry, AreMadeFor}
use Rattle.zb_session.specs.Hours.{Hours, given_of, moved_by, IsReadingOf}
use Rattle.zb_session.specs.Answer.{Answer, IsAnswer, found_in, entries_made, AreSerial}
use Rattle.zb_session.specs.declared.session.End.{End}
use Rattle.zb_session.specs.declared.session.End.TheVariants as ends

-- a session takes at most so many bytes
unfoldable pub most_taken : ℕ
most_taken = 2 ^ 40

-- the replies, in order
abbrev pub replies_of : List Answer → List ℕ
replies_of answers = flat_map (λ answer. answer.reply) answers

-- the bytes behind the last newline are a line where the source was read to its end and there are any
abbrev pub last_line : Bool → List ℕ → List (List ℕ)
last_line true (byte ∷ rest) = (byte ∷ rest) ∷ []
last_line true [] = []
last_line false rest = []

-- a session's part of a run
pub record SessionRun : Type 0 where
  -- the bytes that it took from its source: lines, and a rest behind the last newline
  pub taken : List ℕ
  pub lines : List (List ℕ)
  pub rest : List ℕ
  -- whether the source was read to its end, which it told then
  pub ended : Bool
  -- the lines that were served, what each led to, and the lines that were not
  pub served : List (List ℕ)
  pub answers : List Answer
  pub unserved : List (List ℕ)

-- one session's streams, as the run began and as it ended
pub record SessionEnds : Type 0 where
  pub source : SourceView
  pub source_after : SourceView
  pub sink : SinkView
  pub sink_after : SinkView

-- what the streams of a session tell, which of them may want memory, and which of them count nothing but failures
pub record Streams : Type 0 where
  pub source_tells : Bool
  pub source_counts : Bool
  pub sink_tells : Bool
  pub sink_memory : Bool
  pub sink_counts : Bool

-- what they tell, by the sink's trait
abbrev pub streams_of : {K : Type 0} → (source_tells source_counts : Bool) → sink_trait.Ghosts K → Streams
streams_of source_tells source_counts sinks = record {
  source_tells = source_tells;
  source_counts = source_counts;
  sink_tells = sinks.tells;
  sink_memory = sinks.takes_memory;
  sink_counts = sinks.counts_failures;
}

-- why a reply is missing, or cut short: the sink failed, or its call wanted memory
abbrev pub IsUnsentFor : Streams → SessionEnds → End → Type 0
IsUnsentFor streams sides end = (StreamFaultsRose sides.sink.faults sides.sink_after.faults × (end ≡ ends.SinkFault))
    ⊎ (IsTrue streams.sink_memory × (end ≡ ends.Memory))

-- the replies were written in order, all of them, or all but the last one and a front of that
abbrev pub AreWritten : Streams → SessionEnds → End → List Answer → Type 0
AreWritten streams sides end answers = (sides.sink_after.written ≡ sides.sink.written ++ replies_of answers)
    ⊎ ((front : List Answer) × (last : Answer) × (n : ℕ) × (answers ≡ front ++ last ∷ [])
    × (sides.sink_after.written ≡ sides.sink.written ++ (replies_of front ++ take n last.reply))
    × IsUnsentFor streams sides end)

-- a line was cut off where memory ran out, or where the desk stopped
abbrev pub CutsOff : End → Type 0
CutsOff ends.Memory = Unit {0}
CutsOff ends.Stopped = Unit {0}
CutsOff ends.Done = ⊥
CutsOff ends.SourceFault = ⊥
CutsOff ends.SinkFault = ⊥
CutsOff ends.InputFull = ⊥

-- what lies before a line: the clock of the run, what the desk goes by, the number of the line, and the answers to
-- those before it
pub record Before : Type 0 where
  pub hours : Hours
  pub basis : Basis
  pub number : ℕ
  pub answers : List Answer

-- a line is a request, which at a reading of the clock made these entries, and the one that isn't in its log, if there is
-- one
pub record IsCutLine (before : Before) (line : List ℕ) (rest : List Entry) (unlogged : Option Entry) : Type 0 where
  pub request : Request
  pub asks : request_of (given_of before.hours (length before.basis.logs) before.number) line ≡ Ok request
  pub reading : ℕ
  pub read : IsReadingOf before.hours (found_in before.answers) (moved_by (Ok request)) reading
  pub made : AreMadeFor before.basis request reading (entries_made before.answers) rest
  pub next : (entry : Entry) → unlogged ≡ Some entry → IsNextEntry before.basis request reading (entries_made before.answers) rest entry

-- what lies before the first line that wasn't served
abbrev pub before_unserved : Hours → Basis → SessionRun → Before
before_unserved hours basis run = record { hours = hours; basis = basis; number = length run.served + 1; answers = run.answers }

-- the first line that wasn't served was cut off
pub record IsFirstCut (hours : Hours) (basis : Basis) (run : SessionRun) (rest : List Entry) (unlogged : Option Entry) : Type 0 where
  pub line : List ℕ
  pub lines : List (List ℕ)
  pub first : run.unserved ≡ line ∷ lines
  pub cut : IsCutLine (before_unserved hours basis run) line rest unlogged

-- nothing was left undone, or the first line that wasn't served was cut off
abbrev pub IsLeftUndone : Hours → Basis → SessionRun → List Entry → Option Entry → End → Type 0
IsLeftUndone hours basis run rest unlogged end = ((rest ≡ []) × (unlogged ≡ None))
    ⊎ (IsFirstCut hours basis run rest unlogged × CutsOff end)

-- what is known of a desk: that it has made entries, and that it stopped behind some, with one that isn't in its log
pub record Facts : Type 1 where
  pub has : List Entry → Type 0
  pub stopped : List Entry → Option Entry → Stop → Type 0

-- what is known, by its parts
abbrev pub facts_of : (List Entry → Type 0) → (List Entry → Option Entry → Stop → Type 0) → Facts
facts_of has stopped = record { has = has; stopped = stopped }

-- a session left the desk so that it has made these entries, or stopped with the one that isn't in its log
abbrev pub LeavesDesk : Facts → List Entry → Option Entry → End → Type 0
LeavesDesk known entries unlogged ends.Stopped = (stop : Stop) × known.stopped entries unlogged stop
LeavesDesk known entries unlogged _ = known.has entries × (unlogged ≡ None)

-- what an end says of the lines and the streams
pub record IsEndOf (streams : Streams) (sides : SessionEnds) (run : SessionRun) (end : End) : Type 0 where
  pub done : end ≡ ends.Done → IsTrue run.ended × (run.unserved ≡ [])
  pub source_fault : end ≡ ends.SourceFault → StreamFaultsRose sides.source.faults sides.source_after.faults × (run.unserved ≡ [])
  pub sink_fault : end ≡ ends.SinkFault → StreamFaultsRose sides.sink.faults sides.sink_after.faults
  pub input_full : end ≡ ends.InputFull → (length run.taken ≡ most_taken) × (run.ended ≡ false) × (run.unserved ≡ [])
  pub source_steady : (end ≡ ends.SourceFault → ⊥) → IsTrue streams.source_counts → sides.source_after.faults ≡ sides.source.faults
  pub sink_steady : (end ≡ ends.SinkFault → ⊥) → IsTrue streams.sink_counts → sides.sink_after.faults ≡ sides.sink.faults

-- a session that came to its end so: the bytes that it took are lines and a rest, the first lines were served, each with
-- its answer, the answers are those of the serial run, and the replies were written in order
pub record HasServed (streams : Streams) (hours : Hours) (basis : Basis) (sides : SessionEnds) (run : SessionRun) (end : End) : Type 0 where
  pub takes : TakesBytes streams.source_tells sides.source sides.source_after run.taken
  pub lines : AreLines run.taken run.lines run.rest
  pub within : length run.taken ≤ most_taken
  pub to_end : IsTrue run.ended → IsTrue sides.source_after.ended × (IsTrue streams.source_tells → sides.source_after.left ≡ [])
  pub not_ended : run.ended ≡ false → sides.source_after.ended ≡ sides.source.ended
  pub first : run.lines ++ last_line run.ended run.rest ≡ run.served ++ run.unserved
  pub answers : EachFrom (λ n. IsAnswer (given_of hours (length basis.logs) n)) 1 run.served run.answers
  pub serial : AreSerial hours basis run.answers
  pub sent : IsTrue streams.sink_tells → AreWritten streams sides end run.answers
  pub ends : IsEndOf streams sides run end

-- a session's streams, as it began and as it ended
abbrev pub session_ends : (source source_after : SourceView) (sink sink_after : SinkView) → SessionEnds
session_ends source source_after sink sink_after = record { source = source; source_after = source_after; sink = sink; sink_after = sink_after }

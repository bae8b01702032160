-- A session in a run: the lines of a source, what each led to, and the replies.
use Rattle.std.specs.Prelude.{◌≡◌, ◌⊎◌, ◌<◌, ◌≤◌, ℕ, List, [], ◌∷◌, ◌++◌, length, take, false}
use Rattle.std.specs.Prelude.{IsTrue, IsFalse}
use Rattle.zb_disk.specs.Cause.{Rose}
use Rattle.zb_lines.specs.Taken.{TakesBytes}
use Rattle.zb_lines.specs.Line.{AreLines}
use Rattle.zb_desk.specs.Numbered.{EachFrom}
use Rattle.zb_session.specs.Hours.{given_of}
use Rattle.zb_session.specs.Answer.{Answer, IsAnswer}
use Rattle.zb_session.specs.Session.{SessionEnds, SessionRun, replies_of, last_line, most_taken}
use Rattle.zb_serve.specs.Log.{Course}
use Rattle.zb_serve.specs.Ends.{Told}
use Rattle.zb_serve.specs.Cause.{comes_before, cuts_off}
use Rattle.zb_serve.specs.declared.run.Cause.{Cause}
use Rattle.zb_serve.specs.declared.run.Cause.TheVariants as causes

-- why a reply of the session with this number is missing, or cut short: its sink failed, and the
-- run's cause is none that is told behind that, or its sink's calls take memory, and the cause cut
-- the run off
abbrev pub IsCutShort : Told → (number : ℕ) → SessionEnds → Cause → Type 0
IsCutShort told number ends cause = (Rose ends.sink.faults ends.sink_after.faults
    × IsFalse (comes_before (causes.SinkFault number) cause))
    ⊎ (IsTrue told.sink_memory × IsTrue (cuts_off cause))

-- the replies were written in order, all of them, or all but the last one and a front of that
abbrev pub IsSent : Told → (number : ℕ) → SessionEnds → Cause → List Answer → Type 0
IsSent told number ends cause answers =
    (ends.sink_after.written ≡ ends.sink.written ++ replies_of answers)
    ⊎ ((front : List Answer) × (last : Answer) × (n : ℕ) × (answers ≡ front ++ last ∷ [])
    × (ends.sink_after.written ≡ ends.sink.written ++ (replies_of front ++ take n last.reply))
    × IsCutShort told number ends cause)

-- the session with this number in a run
pub record IsSession (course : Course) (number : ℕ) (ends : SessionEnds)
    (run : SessionRun) : Type 0 where
  -- the bytes that were taken, and the lines that they are
  pub takes : TakesBytes course.told.source ends.source ends.source_after run.taken
  pub lines : AreLines run.taken run.lines run.rest
  pub within : length run.taken ≤ most_taken
  -- where it was read to its end, the source has told its end, and has nothing left; where not, it
  -- has told no end since the run began
  pub to_end : IsTrue run.ended → IsTrue ends.source_after.ended
      × (IsTrue course.told.source → ends.source_after.left ≡ [])
  pub not_ended : run.ended ≡ false → ends.source_after.ended ≡ ends.source.ended
  -- the served lines are the first ones, each with its answer, and the replies were written in
  -- order
  pub first : run.lines ++ last_line run.ended run.rest ≡ run.served ++ run.unserved
  pub answers : EachFrom (λ n. IsAnswer (given_of course.setting.hours course.partitions n))
      1 run.served run.answers
  pub sent : IsTrue course.told.sink → IsSent course.told number ends course.cause run.answers
  -- the run is done only where every source was read to its end and every line is served
  pub done : course.cause ≡ causes.Done → IsTrue run.ended × (run.unserved ≡ [])
  -- whatever became of the others: where the run wasn't cut off, a session whose streams didn't
  -- fail and that isn't full was read to its end, and every line is served
  pub whole : IsFalse (comes_before course.cause (causes.SourceFault number))
      → ¬ Rose ends.source.faults ends.source_after.faults
      → ¬ Rose ends.sink.faults ends.sink_after.faults
      → length run.taken < most_taken → IsTrue run.ended × (run.unserved ≡ [])
  -- a stream is named only where it failed; a source then has all its lines served
  pub source_fault : course.cause ≡ causes.SourceFault number
      → Rose ends.source.faults ends.source_after.faults × (run.unserved ≡ [])
  pub sink_fault : course.cause ≡ causes.SinkFault number
      → Rose ends.sink.faults ends.sink_after.faults
  -- a session is full exactly where it took as many bytes as it may and hasn't ended; all its lines
  -- are served then
  pub input_full : course.cause ≡ causes.InputFull number
      → (length run.taken ≡ most_taken) × (run.ended ≡ false) × (run.unserved ≡ [])

-- How a session ends.
use Rattle.std.proofs.Common.{◌≡◌, ◌≢◌, ◌⊎◌, ℕ, ◌+◌, ◌<◌, ◌≤◌, List, [], ◌∷◌, ◌++◌, length, take, Bool, true, false, IsTrue, Option, None, Ok, Err, IsErrOf, refl, ap, ◌∙◌, subst, inl, inr, arith, length-append}
use Rattle.std.proofs.lemmas.Bool.{false≢true}
use Rattle.zb_outside.specs.Cause.{StreamFaultsRose, UnlessStreamFailed}
use Rattle.zb_outside.specs.Stream.{SourceView, SinkView}
use Rattle.zb_outside.specs.declared.trouble.Trouble.{Trouble}
use Rattle.zb_outside.specs.declared.trouble.Trouble.TheVariants as troubles
use Rattle.zb_lines.specs.Taken.{TakesBytes}
use Rattle.zb_lines.specs.Line.{newline, IsOneLine, ended, Comes, has_ended}
use Rattle.zb_lines.specs.declared.reader.Next.{Next}
use Rattle.zb_lines.specs.declared.reader.Next.TheVariants as nexts
use Rattle.zb_world.specs.declared.entry.Entry.{Entry}
use Rattle.zb_wire.specs.Request.{request_of}
use Rattle.zb_desk.specs.Numbered.{EachFrom}
use Rattle.zb_session.specs.Hours.{given_of}
use Rattle.zb_session.specs.Answer.{Answer, IsAnswer, found_in, entries_made, AreSerial}
use Rattle.zb_session.specs.Session.{Streams, SessionEnds, SessionRun, AreWritten, IsUnsentFor, CutsOff, Before, IsCutLine, IsLeftUndone, Facts, LeavesDesk, IsEndOf, most_taken}
use Rattle.zb_session.specs.Serving.{Began, AreAt, sides_of, Service, Stand, stand_of, AreSteady, IsServing, before_of, given_at, ComesNext, IsUnanswered, IsReplied, IsSinkEnd, IsUnsent, IsLineEnd, IsOver, GoesOn, goes_on, source_end_of}
use Rattle.zb_session.specs.declared.session.End.{End}
use Rattle.zb_session.specs.declared.session.End.TheVariants as ends
use Rattle.zb_session.proofs.ListLemmas.{append_none}
use Rattle.zb_session.proofs.StreamLemmas.{IsStream, IsAtItsEnd, IsBehind, splits, stream_cut, stream_within, stream_end, stream_last, stream_line, stream_on}
use Rattle.zb_session.proofs.TurnLemmas.{past_of, behind, replied_more, serial_more, holds_more, written_more, written_whole, turn_on}

-- a count that rose later rose
rose_since : (start old new : ℕ) → start ≤ old → StreamFaultsRose old new → StreamFaultsRose start new
rose_since start old new later rose = λ below. omega (arith, later, rose below)

-- the part of a session that served these lines
abbrev run_by : (tells : Bool) (start now : SourceView) (served unserved : List (List ℕ)) (at_end : Bool) → IsStream tells start now served unserved at_end → List Answer → SessionRun
run_by tells start now served unserved at_end stream answers = record {
  taken = stream.taken;
  lines = stream.lines;
  rest = stream.rest;
  ended = at_end;
  served = served;
  answers = answers;
  unserved = unserved;
}

-- the streams since a session began: which of them failed
record AreCounted (streams : Streams) (sides : SessionEnds) (end : End) : Type 0 where
  source : (end ≡ ends.SourceFault → ⊥) → IsTrue streams.source_counts → sides.source_after.faults ≡ sides.source.faults
  sink : (end ≡ ends.SinkFault → ⊥) → IsTrue streams.sink_counts → sides.sink_after.faults ≡ sides.sink.faults

-- how a session ends that served these lines
module _ (streams : Streams) (began : Began) (source : SourceView) (service : Service) (served unserved : List (List ℕ)) (at_end : Bool) (answers : List Answer)
    (stream : IsStream streams.source_tells began.source source served unserved at_end) where
  abbrev sides : SessionEnds
  sides = sides_of began source service.sink

  abbrev run : SessionRun
  run = run_by streams.source_tells began.source source served unserved at_end stream answers

  over_by : (end : End) (rest : List Entry) (unlogged : Option Entry) → EachFrom (λ n. IsAnswer (given_of began.hours (length began.basis.logs) n)) 1 served answers → AreSerial began.hours began.basis answers
      → (IsTrue streams.sink_tells → AreWritten streams sides end answers) → IsEndOf streams sides run end → IsLeftUndone began.hours began.basis run rest unlogged end
      → LeavesDesk service.known (entries_made answers ++ rest) unlogged end → ((CutsOff end → ⊥) → AreAt began.hours (found_in answers) service.clocks) → IsOver streams began source service end
  over_by end rest unlogged replied serial sent is undone leaves clock = record {
    run = run;
    rest = rest;
    unlogged = unlogged;
    served = record {
      takes = stream.takes;
      lines = stream.are;
      within = stream.within;
      to_end = stream.to_end;
      not_ended = stream.not_ended;
      first = stream.first;
      answers = replied;
      serial = serial;
      sent = sent;
      ends = is;
    };
    undone = undone;
    leaves = leaves;
    clock = clock;
  }

  is_done : unserved ≡ [] → at_end ≡ true → AreCounted streams sides ends.Done → IsEndOf streams sides run ends.Done
  is_done none all counted = record {
    done = λ e. (all, none);
    source_fault = λ e. absurd (cc);
    sink_fault = λ e. absurd (cc);
    input_full = λ e. absurd (cc);
    source_steady = counted.source;
    sink_steady = counted.sink;
  }

  is_source_fault : unserved ≡ [] → StreamFaultsRose began.source.faults source.faults → AreCounted streams sides ends.SourceFault → IsEndOf streams sides run ends.SourceFault
  is_source_fault none rose counted = record {
    done = λ e. absurd (cc);
    source_fault = λ e. (rose, none);
    sink_fault = λ e. absurd (cc);
    input_full = λ e. absurd (cc);
    source_steady = counted.source;
    sink_steady = counted.sink;
  }

  is_full : unserved ≡ [] → at_end ≡ false → length stream.taken ≡ most_taken → AreCounted streams sides ends.InputFull → IsEndOf streams sides run ends.InputFull
  is_full none short full counted = record {
    done = λ e. absurd (cc);
    source_fault = λ e. absurd (cc);
    sink_fault = λ e. absurd (cc);
    input_full = λ e. (full, short, none);
    source_steady = counted.source;
    sink_steady = counted.sink;
  }

  is_sink_fault : StreamFaultsRose began.sink.faults service.sink.faults → AreCounted streams sides ends.SinkFault → IsEndOf streams sides run ends.SinkFault
  is_sink_fault rose counted = record {
    done = λ e. absurd (cc);
    source_fault = λ e. absurd (cc);
    sink_fault = λ e. rose;
    input_full = λ e. absurd (cc);
    source_steady = counted.source;
    sink_steady = counted.sink;
  }

  -- memory ran out, or the desk stopped
  is_cut : (end : End) → CutsOff end → AreCounted streams sides end → IsEndOf streams sides run end
  is_cut ends.Memory cuts counted = record {
    done = λ e. absurd (cc);
    source_fault = λ e. absurd (cc);
    sink_fault = λ e. absurd (cc);
    input_full = λ e. absurd (cc);
    source_steady = counted.source;
    sink_steady = counted.sink;
  }
  is_cut ends.Stopped cuts counted = record {
    done = λ e. absurd (cc);
    source_fault = λ e. absurd (cc);
    sink_fault = λ e. absurd (cc);
    input_full = λ e. absurd (cc);
    source_steady = counted.source;
    sink_steady = counted.sink;
  }
  is_cut ends.Done cuts counted = absurd cuts
  is_cut ends.SourceFault cuts counted = absurd cuts
  is_cut ends.SinkFault cuts counted = absurd cuts
  is_cut ends.InputFull cuts counted = absurd cuts

  -- a sink that ends it
  is_unsent : (end : End) (old : SinkView) → IsSinkEnd streams.sink_memory old service.sink end → began.sink.faults ≤ old.faults → AreCounted streams sides end → IsEndOf streams sides run end
  is_unsent ends.Memory old named later counted = is_cut ends.Memory tt counted
  is_unsent ends.SinkFault old named later counted = is_sink_fault (rose_since began.sink.faults old.faults service.sink.faults later named) counted
  is_unsent ends.Done old named later counted = absurd named
  is_unsent ends.SourceFault old named later counted = absurd named
  is_unsent ends.InputFull old named later counted = absurd named
  is_unsent ends.Stopped old named later counted = absurd named

-- why the last reply falls short
short : (streams : Streams) (told : SessionEnds) (old : SinkView) (end : End) → IsSinkEnd streams.sink_memory old told.sink_after end → told.sink.faults ≤ old.faults → IsUnsentFor streams told end
short streams told old ends.Memory named later = inr (named, refl)
short streams told old ends.SinkFault named later = inl (rose_since told.sink.faults old.faults told.sink_after.faults later named, refl)
short streams told old ends.Done named later = absurd named
short streams told old ends.SourceFault named later = absurd named
short streams told old ends.InputFull named later = absurd named
short streams told old ends.Stopped named later = absurd named

-- a desk that has made no more than these entries, by an end that doesn't come from it
leaves_whole : (known : Facts) (entries : List Entry) (end : End) → (end ≡ ends.Stopped → ⊥) → known.has entries → LeavesDesk known (entries ++ []) None end
leaves_whole known entries end own has = by_end end own
  where
    whole : known.has (entries ++ [])
    whole = subst (λ (es : List Entry). known.has es) (append_none entries) has

    by_end : (end : End) → (end ≡ ends.Stopped → ⊥) → LeavesDesk known (entries ++ []) None end
    by_end ends.Done own = (whole, refl)
    by_end ends.SourceFault own = (whole, refl)
    by_end ends.SinkFault own = (whole, refl)
    by_end ends.InputFull own = (whole, refl)
    by_end ends.Memory own = (whole, refl)
    by_end ends.Stopped own = absurd (own refl)

-- a line was not answered, for want of memory, and nothing was done for it
pub unanswered_idle : (before : Before) (line : List ℕ) (known : Facts) (end : End) → end ≡ ends.Memory → known.has (entries_made before.answers) → IsUnanswered before line known end
unanswered_idle before line known end memory has = rw memory (record {
  rest = [];
  unlogged = None;
  undone = inl (refl, refl);
  cuts = tt;
  leaves = leaves_whole known (entries_made before.answers) ends.Memory (λ e. absurd (cc)) has;
})

-- the session ends between two lines
module _ (streams : Streams) (began : Began) (old : Stand) (s : IsServing streams began old)
    (left : ℕ) (source : SourceView) (more : List ℕ) (takes : TakesBytes streams.source_tells old.source source more) (spends : old.budget ≡ left + length more) where
  abbrev Over : End → Type 0
  Over end = IsOver streams began source old.service end

  abbrev Stream : List (List ℕ) → Bool → Type 0
  Stream unserved at_end = IsStream streams.source_tells began.source source s.lines unserved at_end

  was : IsBehind streams.source_tells began.source source s.lines (old.held ++ more)
  was = behind streams began old s left source more takes spends

  ends_by : (end : End) (unserved : List (List ℕ)) (at_end : Bool) (stream : Stream unserved at_end)
      → IsEndOf streams (sides_of began source old.service.sink) (run_by streams.source_tells began.source source s.lines unserved at_end stream s.answers) end → (end ≡ ends.Stopped → ⊥) → Over end
  ends_by end unserved at_end stream is own =
      over_by streams began source old.service s.lines unserved at_end s.answers stream end [] None s.replied s.serial (λ t. inl (s.sent t)) is (inl (refl, refl))
      (leaves_whole old.service.known (entries_made s.answers) end own s.holds) (λ uncut. s.clock)

  counted : (end : End) → ((end ≡ ends.SourceFault → ⊥) → IsTrue streams.source_counts → source.faults ≡ old.source.faults) → AreCounted streams (sides_of began source old.service.sink) end
  counted end steady = record {
    source = λ other t. steady other t ∙ s.steady.source_same t;
    sink = λ other. s.steady.sink_same;
  }

  -- there was no memory to read on
  pub stops_memory : source.ended ≡ old.source.ended → (IsTrue streams.source_counts → source.faults ≡ old.source.faults) → Over ends.Memory
  stops_memory still steady =
      let split = splits (old.held ++ more) in
      let stream = stream_cut streams.source_tells began.source source s.lines (old.held ++ more) was (still ∙ s.unended) split in
      ends_by ends.Memory split.lines false stream (is_cut streams began source old.service s.lines split.lines false s.answers stream ends.Memory tt (counted ends.Memory (λ other. steady))) (λ e. absurd (cc))

  -- the source failed
  stops_source : source.ended ≡ old.source.ended → IsOneLine (old.held ++ more) → StreamFaultsRose old.source.faults source.faults → Over ends.SourceFault
  stops_source still one rose =
      let stream = stream_within streams.source_tells began.source source s.lines (old.held ++ more) was (still ∙ s.unended) one in
      ends_by ends.SourceFault [] false stream
      (is_source_fault streams began source old.service s.lines [] false s.answers stream refl (rose_since began.source.faults old.source.faults source.faults s.steady.source_later rose)
      (counted ends.SourceFault (λ other. absurd (other refl)))) (λ e. absurd (cc))

  -- the source could not be read on
  pub stops_reading : (rest shown : List ℕ) (most : ℕ) (trouble : Trouble) → source.ended ≡ old.source.ended → Comes most (Err trouble) (old.held ++ more) rest shown
      → (IsErrOf {T = Next} (Err trouble) troubles.Failed → StreamFaultsRose old.source.faults source.faults)
      → (IsTrue streams.source_counts → UnlessStreamFailed {T = Next} (Err trouble) (source.faults ≡ old.source.faults)) → Over (source_end_of trouble)
  stops_reading rest shown most troubles.Failed still comes rose steady = stops_source still comes (rose refl)
  stops_reading rest shown most troubles.Memory still comes rose steady = stops_memory still steady

  -- the session took as much as it may
  pub stops_full : source.ended ≡ old.source.ended → IsOneLine (old.held ++ more) → left ≡ 0 → (IsTrue streams.source_counts → source.faults ≡ old.source.faults) → Over ends.InputFull
  stops_full still one none steady =
      let stream = stream_within streams.source_tells began.source source s.lines (old.held ++ more) was (still ∙ s.unended) one in
      let full : length stream.taken ≡ most_taken = omega (arith, s.spent, spends, none, s.takes.given, takes.given, stream.takes.given) in
      ends_by ends.InputFull [] false stream (is_full streams began source old.service s.lines [] false s.answers stream refl refl full (counted ends.InputFull (λ other. steady))) (λ e. absurd (cc))

  -- the source ended behind a line
  pub stops_done : old.held ++ more ≡ [] → IsAtItsEnd streams.source_tells source → (IsTrue streams.source_counts → source.faults ≡ old.source.faults) → Over ends.Done
  stops_done none end steady =
      let stream = stream_end streams.source_tells began.source source s.lines (old.held ++ more) was none end in
      ends_by ends.Done [] true stream (is_done streams began source old.service s.lines [] true s.answers stream refl refl (counted ends.Done (λ other. steady))) (λ e. absurd (cc))

-- a turn that told that no more may come ended the session
pub goes_over : (streams : Streams) (began : Began) (now : Stand) (more : Bool) → more ≡ false → GoesOn streams began now (Ok more) → IsOver streams began now.source now.service ends.Done
goes_over streams began now true is goes = absurd (cc)
goes_over streams began now false is goes = goes

-- a turn that told that more may come goes on
pub goes_next : (streams : Streams) (began : Began) (now : Stand) (more : Bool) → more ≡ true → GoesOn streams began now (Ok more) → IsServing streams began now
goes_next streams began now true is goes = goes
goes_next streams began now false is goes = absurd (cc)

-- a line ends the session
module _ (streams : Streams) (began : Began) (old : Stand) (s : IsServing streams began old) (source : SourceView) (new : Service)
    (line : List ℕ) (unserved : List (List ℕ)) (at_end : Bool) (stream : IsStream streams.source_tells began.source source s.lines (line ∷ unserved) at_end)
    (source_steady : IsTrue streams.source_counts → source.faults ≡ old.source.faults) where
  abbrev LineOver : End → Type 0
  LineOver end = IsOver streams began source new end

  abbrev past : Before
  past = past_of streams began old s

  -- the lines with this one
  served : IsStream streams.source_tells began.source source (s.lines ++ line ∷ []) unserved at_end
  served = stream_on streams.source_tells began.source source s.lines line unserved at_end stream

  line_counted : (end : End) → ((end ≡ ends.SinkFault → ⊥) → IsTrue streams.sink_counts → new.sink.faults ≡ old.service.sink.faults) → AreCounted streams (sides_of began source new.sink) end
  line_counted end steady = record {
    source = λ other t. source_steady t ∙ s.steady.source_same t;
    sink = λ other t. steady other t ∙ s.steady.sink_same t;
  }

  -- the line was answered, and its reply was not written whole
  stops_unsent : (end : End) → IsUnsent streams past line old.service.sink new end → ((end ≡ ends.SinkFault → ⊥) → IsTrue streams.sink_counts → new.sink.faults ≡ old.service.sink.faults) → LineOver end
  stops_unsent end unsent steady =
      let a = unsent.answered in
      over_by streams began source new (s.lines ++ line ∷ []) unserved at_end (s.answers ++ a.answer ∷ []) served end [] None
      (replied_more streams began old s line unsent.reply new a) (serial_more streams began old s line unsent.reply new a)
      (λ t. inr (
        s.answers,
        a.answer,
        (unsent.sent t).0,
        refl,
        written_more streams began old s line unsent.reply new a new.sink.written (unsent.sent t).0 t (unsent.sent t).1,
        short streams (sides_of began source new.sink) old.service.sink end unsent.named s.steady.sink_later,
      ))
      (is_unsent streams began source new (s.lines ++ line ∷ []) unserved at_end (s.answers ++ a.answer ∷ []) served end old.service.sink unsent.named s.steady.sink_later (line_counted end steady))
      (inl (refl, refl))
      (leaves_whole new.known (entries_made (s.answers ++ a.answer ∷ [])) end (λ e. own e unsent.named) (holds_more streams began old s line unsent.reply new a)) (λ uncut. a.clock)
    where
      own : end ≡ ends.Stopped → IsSinkEnd streams.sink_memory old.service.sink new.sink end → ⊥
      own e named = subst (λ (e : End). IsSinkEnd streams.sink_memory old.service.sink new.sink e) e named

  -- the line was not answered
  stops_unanswered : (end : End) → new.sink ≡ old.service.sink → IsUnanswered past line new.known end → LineOver end
  stops_unanswered end same a =
      let faults = ap (λ (v : SinkView). v.faults) same in
      over_by streams began source new s.lines (line ∷ unserved) at_end s.answers stream end a.rest a.unlogged s.replied s.serial
      (λ t. inl (ap (λ (v : SinkView). v.written) same ∙ s.sent t))
      (is_cut streams began source new s.lines (line ∷ unserved) at_end s.answers stream end a.cuts (line_counted end (λ other t. faults)))
      (undone a.undone) a.leaves (λ uncut. absurd (uncut a.cuts))
    where
      run : SessionRun
      run = run_by streams.source_tells began.source source s.lines (line ∷ unserved) at_end stream s.answers

      undone : ((a.rest ≡ []) × (a.unlogged ≡ None)) ⊎ IsCutLine past line a.rest a.unlogged → IsLeftUndone began.hours began.basis run a.rest a.unlogged end
      undone (inl none) = inl none
      undone (inr cut) = inr (
        record {
          line = line;
          lines = unserved;
          first = refl;
          cut = subst (λ (n : ℕ). IsCutLine (before_of began.hours began.basis n s.answers) line a.rest a.unlogged) s.count cut;
        },
        a.cuts,
      )

  -- a line ended the session
  pub stops_line : (end : End) → IsLineEnd streams past line old.service.sink new end → ((end ≡ ends.SinkFault → ⊥) → IsTrue streams.sink_counts → new.sink.faults ≡ old.service.sink.faults) → LineOver end
  stops_line end (inl unsent) steady = stops_unsent end unsent steady
  stops_line end (inr (same, why)) steady = stops_unanswered end same why

  -- the last line was served
  pub stops_served : unserved ≡ [] → at_end ≡ true → IsReplied streams past line old.service.sink new → AreSteady streams old.source source old.service.sink new.sink → LineOver ends.Done
  stops_served none all replied later =
      let a = replied.answered in
      over_by streams began source new (s.lines ++ line ∷ []) unserved at_end (s.answers ++ a.answer ∷ []) served ends.Done [] None
      (replied_more streams began old s line replied.reply new a) (serial_more streams began old s line replied.reply new a)
      (λ t. inl (written_whole streams began old s line replied.reply new a new.sink.written t (replied.sent t)))
      (is_done streams began source new (s.lines ++ line ∷ []) unserved at_end (s.answers ++ a.answer ∷ []) served none all (line_counted ends.Done (λ other. later.sink_same)))
      (inl (refl, refl))
      (leaves_whole new.known (entries_made (s.answers ++ a.answer ∷ [])) ends.Done (λ e. absurd (cc)) (holds_more streams began old s line replied.reply new a)) (λ uncut. a.clock)

-- the line that came next, where one did: the first one, or the last one without a newline
abbrev pub line_in : (held more : List ℕ) (most : ℕ) (next : Next) (left shown : List ℕ) → Comes most (Ok next) (held ++ more) left shown → List ℕ
line_in held more most nexts.Line left shown came = came.0
line_in held more most nexts.Last left shown came = held ++ more
line_in held more most nexts.End left shown came = []
line_in held more most nexts.Full left shown came = []

-- a line that others may follow has taken a byte at least
pub fewer_left : (held more : List ℕ) (most left_over budget : ℕ) (next : Next) (left shown : List ℕ) → Comes most (Ok next) (held ++ more) left shown → budget ≡ left_over + length more → IsTrue (goes_on next)
    → length left + left_over < length held + budget
fewer_left held more most left_over budget nexts.Line left shown came spends goes =
    omega (arith, spends, ap length came.2, length-append held more, length-append (ended came.0) left, length-append came.0 (newline ∷ []))
fewer_left held more most left_over budget nexts.Last left shown came spends goes = absurd (false≢true goes)
fewer_left held more most left_over budget nexts.End left shown came spends goes = absurd (false≢true goes)
fewer_left held more most left_over budget nexts.Full left shown came spends goes = absurd (false≢true goes)

-- what was kept of it is its front
shown_in : (held more : List ℕ) (most : ℕ) (next : Next) (left shown : List ℕ) (came : Comes most (Ok next) (held ++ more) left shown) → next ≢ nexts.End → next ≢ nexts.Full
    → shown ≡ take most (line_in held more most next left shown came)
shown_in held more most nexts.Line left shown came other some = came.3
shown_in held more most nexts.Last left shown came other some = came.3
shown_in held more most nexts.End left shown came other some = absurd (other refl)
shown_in held more most nexts.Full left shown came other some = absurd (some refl)

-- the line that comes next, as much of it as was kept
pub comes_next : (streams : Streams) (began : Began) (now : Stand) (s : IsServing streams began now) (most : ℕ) (more left shown : List ℕ) (next : Next) → next ≢ nexts.End → next ≢ nexts.Full
    → (came : Comes most (Ok next) (now.held ++ more) left shown)
    → ((line : List ℕ) → request_of (given_at (past_of streams began now s)) (take most line) ≡ request_of (given_at (past_of streams began now s)) line)
    → ComesNext (past_of streams began now s) now.service.clocks now.service.known (line_in now.held more most next left shown came) shown
comes_next streams began now s most more left shown next other some came decides = record {
  clock = s.clock;
  holds = s.holds;
  same = ap (request_of (given_at (past_of streams began now s))) (shown_in now.held more most next left shown came other some) ∙ decides (line_in now.held more most next left shown came);
}

-- a line was read
module _ (streams : Streams) (began : Began) (old : Stand) (s : IsServing streams began old) (source : SourceView) (new : Service)
    (budget' most : ℕ) (more left shown : List ℕ) (takes : TakesBytes streams.source_tells old.source source more) (spends : old.budget ≡ budget' + length more)
    (over : IsTrue streams.source_tells → IsTrue source.ended → source.left ≡ []) where
  abbrev behind_it : IsBehind streams.source_tells began.source source s.lines (old.held ++ more)
  behind_it = behind streams began old s budget' source more takes spends

  -- and served
  pub turn_served : (next : Next) → next ≢ nexts.End → next ≢ nexts.Full → (came : Comes most (Ok next) (old.held ++ more) left shown) → source.ended ≡ has_ended (Ok next) old.source.ended
      → IsReplied streams (past_of streams began old s) (line_in old.held more most next left shown came) old.service.sink new → AreSteady streams old.source source old.service.sink new.sink
      → GoesOn streams began (stand_of source new left budget' (old.number + 1)) (Ok (goes_on next))
  turn_served nexts.Line other some came told replied later = turn_on streams began old s new budget' source more came.0 left told takes spends came.1 came.2 replied later
  turn_served nexts.Last other some came told replied later =
      let line = old.held ++ more in
      let stream = stream_last streams.source_tells began.source source s.lines line behind_it came.0 came.1 (told, λ t. over t told) in
      stops_served streams began old s source new line [] true stream later.source_same refl refl replied later
  turn_served nexts.End other some came told replied later = absurd (other refl)
  turn_served nexts.Full other some came told replied later = absurd (some refl)

  -- and ended the session
  pub turn_stopped : (next : Next) → next ≢ nexts.End → next ≢ nexts.Full → (came : Comes most (Ok next) (old.held ++ more) left shown) → source.ended ≡ has_ended (Ok next) old.source.ended → (end : End)
      → IsLineEnd streams (past_of streams began old s) (line_in old.held more most next left shown came) old.service.sink new end → (IsTrue streams.source_counts → source.faults ≡ old.source.faults)
      → ((end ≡ ends.SinkFault → ⊥) → IsTrue streams.sink_counts → new.sink.faults ≡ old.service.sink.faults) → IsOver streams began source new end
  turn_stopped nexts.Line other some came told end ended source_steady steady =
      let stream = stream_line streams.source_tells began.source source s.lines (old.held ++ more) came.0 left behind_it (told ∙ s.unended) came.2 came.1 in
      stops_line streams began old s source new came.0 (splits left).lines false stream source_steady end ended steady
  turn_stopped nexts.Last other some came told end ended source_steady steady =
      let line = old.held ++ more in
      let stream = stream_last streams.source_tells began.source source s.lines line behind_it came.0 came.1 (told, λ t. over t told) in
      stops_line streams began old s source new line [] true stream source_steady end ended steady
  turn_stopped nexts.End other some came told end ended source_steady steady = absurd (other refl)
  turn_stopped nexts.Full other some came told end ended source_steady steady = absurd (some refl)

-- One turn of a session that goes on: a line is read, answered and replied to.
use Rattle.std.proofs.Common.{◌≡◌, ℕ, ◌+◌, List, [], ◌∷◌, ◌++◌, length, take, IsTrue, refl, sym, ap, ◌∙◌, subst, append_assoc, arith, length-append}
use Rattle.std.specs.List.{flat_map}
use Rattle.std.proofs.lemmas.Grind.{flat_map-append}
use Rattle.std.proofs.lemmas.List.{append-nil}
use Rattle.zb_outside.specs.Stream.{SourceView, SinkView}
use Rattle.zb_lines.specs.Taken.{TakesBytes}
use Rattle.zb_lines.proofs.TakenLaws.{takes_on, takes_nothing}
use Rattle.zb_lines.specs.Line.{IsOneLine, ended}
use Rattle.zb_rules.proofs.StepLaws.{each_on_none, each_on_more}
use Rattle.zb_world.specs.declared.entry.Entry.{Entry}
use Rattle.zb_desk.specs.Numbered.{EachFrom}
use Rattle.zb_session.specs.Hours.{given_of}
use Rattle.zb_session.specs.Answer.{IsAnswer, entries_made, IsServed, AreSerial}
use Rattle.zb_session.specs.Session.{Streams, Before, Facts, replies_of, most_taken}
use Rattle.zb_session.specs.Serving.{Began, Clocks, AreAt, Service, service_of, Stand, stand_of, AreSteady, IsServing, before_of, IsAnswered, IsReplied}
use Rattle.zb_session.proofs.AnswerLemmas.{entries_more}
use Rattle.zb_session.proofs.ListLemmas.{append_none, EachFrom_more}
use Rattle.zb_rules.proofs.KindsLaws.{all_joined}
use Rattle.zb_session.proofs.StreamLemmas.{IsBehind, replies_of_more}

-- where a session stands before it reads
abbrev first_stand : SourceView → Service → Stand
first_stand source service = stand_of source service [] most_taken 1

-- nothing was read yet
pub serving_first : (streams : Streams) (began : Began) (clocks : Clocks) (known : Facts) → known.has [] → AreAt began.hours [] clocks
    → IsServing streams began (first_stand began.source (service_of began.sink clocks known))
unfolding most_taken
serving_first streams began clocks known has at = record {
  taken = [];
  lines = [];
  answers = [];
  takes = takes_nothing streams.source_tells began.source;
  spent = refl;
  whole = refl;
  each = tt;
  count = refl;
  unended = refl;
  clock = at;
  replied = tt;
  serial = each_on_none (IsServed began.hours began.basis) [];
  sent = λ t. append_none began.sink.written;
  holds = has;
  steady = record { source_later = omega arith; sink_later = omega arith; source_same = λ t. refl; sink_same = λ t. refl };
}

-- streams that didn't fail, and then didn't again
steady_then : (streams : Streams) (source source' source'' : SourceView) (sink sink' sink'' : SinkView) → AreSteady streams source source' sink sink' → AreSteady streams source' source'' sink' sink'' → AreSteady streams source source'' sink sink''
steady_then streams source source' source'' sink sink' sink'' first then = record {
  source_later = omega (arith, first.source_later, then.source_later);
  sink_later = omega (arith, first.sink_later, then.sink_later);
  source_same = λ t. then.source_same t ∙ first.source_same t;
  sink_same = λ t. then.sink_same t ∙ first.sink_same t;
}

module _ (streams : Streams) (began : Began) (old : Stand) (s : IsServing streams began old) where
  -- what lies behind the line that comes next
  abbrev pub past_of : Before
  past_of = before_of began.hours began.basis old.number s.answers

  -- what was taken, with the bytes of this turn
  pub behind : (left : ℕ) (source : SourceView) (more : List ℕ) → TakesBytes streams.source_tells old.source source more → old.budget ≡ left + length more
      → IsBehind streams.source_tells began.source source s.lines (old.held ++ more)
  behind left source more takes spends = record {
    taken = s.taken ++ more;
    takes = takes_on streams.source_tells began.source old.source source s.taken more s.takes takes;
    within = omega (arith, s.spent, spends, length-append s.taken more);
    whole = ap (λ bs. bs ++ more) s.whole ∙ append_assoc (flat_map ended s.lines) old.held more;
    each = s.each;
  }

  -- with one line more, which was answered
  module _ (line reply : List ℕ) (new : Service) (a : IsAnswered past_of line reply new.clocks new.known) where
    pub replied_more : EachFrom (λ n. IsAnswer (given_of began.hours (length began.basis.logs) n)) 1 (s.lines ++ line ∷ []) (s.answers ++ a.answer ∷ [])
    replied_more =
        let here : old.number ≡ 1 + length s.lines = omega (arith, s.count) in
        EachFrom_more (λ n. IsAnswer (given_of began.hours (length began.basis.logs) n)) 1 s.lines s.answers line a.answer s.replied
        (subst (λ (k : ℕ). IsAnswer (given_of began.hours (length began.basis.logs) k) line a.answer) here a.is)

    pub serial_more : AreSerial began.hours began.basis (s.answers ++ a.answer ∷ [])
    serial_more = each_on_more (IsServed began.hours began.basis) [] s.answers a.answer s.serial a.served

    pub holds_more : new.known.has (entries_made (s.answers ++ a.answer ∷ []))
    holds_more = subst (λ (es : List Entry). new.known.has es) (sym (entries_more s.answers a.answer)) a.holds

    -- a front of its reply was written behind the replies to those before it
    pub written_more : (written : List ℕ) (n : ℕ) → IsTrue streams.sink_tells → written ≡ old.service.sink.written ++ take n reply
        → written ≡ began.sink.written ++ (replies_of s.answers ++ take n a.answer.reply)
    written_more written n t sent = sent ∙ ap (λ r. old.service.sink.written ++ take n r) (sym a.written) ∙ ap (λ bs. bs ++ take n a.answer.reply) (s.sent t)
        ∙ append_assoc began.sink.written (replies_of s.answers) (take n a.answer.reply)

    -- or all of it
    pub written_whole : (written : List ℕ) → IsTrue streams.sink_tells → written ≡ old.service.sink.written ++ reply → written ≡ began.sink.written ++ replies_of (s.answers ++ a.answer ∷ [])
    written_whole written t sent = sent ∙ ap (λ r. old.service.sink.written ++ r) (sym a.written) ∙ ap (λ bs. bs ++ a.answer.reply) (s.sent t)
        ∙ append_assoc began.sink.written (replies_of s.answers) a.answer.reply ∙ ap (λ bs. began.sink.written ++ bs) (sym (replies_of_more s.answers a.answer))

  -- a line was served: the session goes on behind it
  pub turn_on : (new : Service) (budget' : ℕ) (source : SourceView) (more line left : List ℕ) → source.ended ≡ old.source.ended
      → TakesBytes streams.source_tells old.source source more → old.budget ≡ budget' + length more → IsOneLine line → old.held ++ more ≡ ended line ++ left
      → IsReplied streams past_of line old.service.sink new → AreSteady streams old.source source old.service.sink new.sink
      → IsServing streams began (stand_of source new left budget' (old.number + 1))
  turn_on new budget' source more line left still takes spends one bytes replied later =
      let b = behind budget' source more takes spends in
      let a = replied.answered in
      record {
        taken = b.taken;
        lines = s.lines ++ line ∷ [];
        answers = s.answers ++ a.answer ∷ [];
        takes = b.takes;
        spent = omega (arith, s.spent, spends, length-append s.taken more);
        whole = b.whole ∙ ap (λ bs. flat_map ended s.lines ++ bs) bytes ∙ rw (flat_map-append ended s.lines (line ∷ []), append-nil (ended line)) (sym (append_assoc (flat_map ended s.lines) (ended line) left));
        each = all_joined IsOneLine s.lines (line ∷ []) s.each (one, tt);
        count = omega (arith, s.count, length-append s.lines (line ∷ []));
        unended = still ∙ s.unended;
        clock = a.clock;
        replied = replied_more line replied.reply new a;
        serial = serial_more line replied.reply new a;
        sent = λ t. written_whole line replied.reply new a new.sink.written t (replied.sent t);
        holds = holds_more line replied.reply new a;
        steady = steady_then streams began.source old.source source began.sink old.service.sink new.sink s.steady later;
      }

-- Reading a log frame by frame.
use Rattle.std.proofs.Common.{◌≡◌, ◌∷◌, ◌++◌, ◌+◌, ◌-◌, ◌<◌, suc, List, [], ℕ, Option, Some, None, IsTrue, IsFalse, refl, sym, ap, ◌∙◌, arith, append-nil, subst}
use Rattle.zb_model.specs.declared.record.Event.{Event}
use Rattle.zb_model.specs.declared.record.Batch.{Batch}
use Rattle.zb_model.specs.Record.{bytes_of}
use Rattle.zb_model.specs.RecordFits.{IsBatch}
use Rattle.zb_model.specs.Batches as layouts
use Rattle.zb_model.specs.Layouts as kinds
use Rattle.zb_model.specs.Upshots.{upshot_of, upshot_at, events_at, upshot_behind}
use Rattle.zb_model.specs.declared.record.Heading.{Heading}
use Rattle.zb_codec.proofs.BatchLemmas.{read_whole, found, one_spelling}
use Rattle.zb_format.proofs.ListLemmas.{with_front}
use Rattle.zb_format.specs.FormatLaws.{some_is}
use Rattle.zb_format.specs.Law.{IsBytes}
use Rattle.zb_format.specs.Reading.{◌>>=◌, made_at}
use Rattle.zb_views.specs.View.{events_of, events_in}
use Rattle.zb_views.proofs.ViewLaws.{events_of_more, moment_of_last_more}
use Rattle.zb_rules.specs.Applies.{applies, all_apply}
use Rattle.zb_rules.proofs.StepLaws.{all_apply_more, all_apply_on}
use Rattle.zb_state.specs.State.{partition_of, IsStateOf}
use Rattle.zb_state.specs.declared.facts.Facts.{Facts}
use Rattle.zb_partition.specs.declared.opening.Known.{Known}
use Rattle.zb_partition.specs.Log.{AreBatches, IsApplied, IsBadBody}
use Rattle.zb_partition.specs.Reading.{IsKnown, IsRefused, AreTaken, AreRefused}

-- each of some events and then one more applies
pub apply_next : (p : ℕ) (es events : List Event) (e : Event) → IsTrue (all_apply p es events) → IsTrue (applies p (es ++ events) e) → IsTrue (all_apply p es (events ++ e ∷ []))
apply_next p es events e front here = rw (all_apply_more p es events e) (grind (arith, front, here))

-- some of them don't all apply, where one of them doesn't to those before it
pub one_fails : (p : ℕ) (es before : List Event) (e : Event) (after : List Event) → IsFalse (applies p (es ++ before) e) → IsFalse (all_apply p es (before ++ e ∷ after))
one_fails p es before e after here = rw (all_apply_on p es before (e ∷ after)) (grind (arith, here))

-- a log whose events apply, and a batch whose events apply to it
pub applied_more : (p : ℕ) (log : List Batch) (batch : Batch) → IsApplied p log → IsTrue (all_apply p (events_of log) (events_in batch.outcome)) → IsApplied p (log ++ batch ∷ [])
applied_more p log batch before here = rw (events_of_more log batch, all_apply_on p [] (events_of log) (events_in batch.outcome)) (grind (arith, before, here))

-- two batches with one spelling are one
pub one_batch : (a b : Batch) → IsBatch a → IsBatch b → bytes_of a ≡ bytes_of b → a ≡ b
one_batch a b of_a of_b same = (one_spelling a b [] of_a of_b (sym same ∙ sym (append-nil (bytes_of a)))).0

-- batches that fit their spelling, and one more
pub are_more : (log : List Batch) (batch : Batch) → AreBatches log → IsBatch batch → AreBatches (log ++ batch ∷ [])
are_more [] batch are is = (is, tt)
are_more (b ∷ bs) batch are is = (are.0, are_more bs batch are.1 is)

-- one batch more is known
pub known_more : (p : ℕ) (log : List Batch) (batch : Batch) (old new : Known) → IsBatch batch → IsKnown p log old → partition_of new.state ≡ partition_of old.state → IsTrue (all_apply (partition_of old.state) (events_of log) (events_in batch.outcome)) → IsStateOf (events_of log ++ events_in batch.outcome) new.state → batch.moment ≡ new.last_moment → IsKnown p (log ++ batch ∷ []) new
known_more p log batch old new is known place here state moment = record {
  place = place ∙ known.place;
  fits = are_more log batch known.fits is;
  applied = applied_more p log batch known.applied (subst (λ (q : ℕ). IsTrue (all_apply q (events_of log) (events_in batch.outcome))) known.place here);
  state = subst (λ (l : List Event). IsStateOf l new.state) (sym (events_of_more log batch)) state;
  moment = moment_of_last_more log batch ∙ moment;
}

-- ---- events as they are read

-- some events were read, all events are these and those behind them, these apply and were taken in
abbrev pub AreTakenSoFar : ℕ → List Event → Option (List Event × List ℕ) → Option (List Event × List ℕ) → Facts → Type 0
AreTakenSoFar p es behind all state = (front : List Event) × (with_front front behind ≡ all) × IsTrue (all_apply p es front) × IsStateOf (es ++ front) state

fails_in : (p : ℕ) (es front events : List Event) (e : Event) (behind : Option (List Event × List ℕ)) → IsFalse (applies p (es ++ front) e)
    → with_front front (behind >>= λ xs. Some (e ∷ xs.0, xs.1)) ≡ Some (events, []) → IsFalse (all_apply p es events)
fails_in p es front events e (Some xs) here is =
    let same : front ++ e ∷ xs.0 ≡ events = ap (λ (q : List Event × List ℕ). q.0) (some_is (front ++ e ∷ xs.0, xs.1) (events, []) is) in
    subst (λ (l : List Event). IsFalse (all_apply p es l)) same (one_fails p es front e xs.0 here)
fails_in p es front events e None here is = absurd cc

refused_in : (p : ℕ) (es front events : List Event) (k : ℕ) (read : Option (Event × List ℕ)) → IsRefused p (es ++ front) read
    → with_front front (read >>= λ x. events_at k x.1 >>= λ xs. Some (x.0 ∷ xs.0, xs.1)) ≡ Some (events, []) → IsFalse (all_apply p es events)
refused_in p es front events k (Some x) refused is = fails_in p es front events x.0 (events_at k x.1) (refused x.0 x.1 refl) is
refused_in p es front events k None refused is = absurd cc

-- where the next event is refused, not all apply
pub are_refused : (p : ℕ) (es front : List Event) (count i : ℕ) (bytes : List ℕ) (all : Option (List Event × List ℕ)) → i < count
    → with_front front (events_at (count - i) bytes) ≡ all → IsRefused p (es ++ front) (kinds.event.reading bytes) → AreRefused p es all
are_refused p es front count i bytes all lt whole refused events is =
    let k : count - i ≡ suc (count - (i + 1)) = omega arith in
    let next = rw k at (whole ∙ is) in
    refused_in p es front events (count - (i + 1)) (kinds.event.reading bytes) refused next

-- where there is no event, none applies
pub none_refused : (p : ℕ) (es : List Event) (read : Option (Event × List ℕ)) → read ≡ None → IsRefused p es read
none_refused p es read none e rest some = absurd (let gone : ◌≡◌ {A = Option (Event × List ℕ)} None (Some (e, rest)) = sym none ∙ some in cc)

-- where the event that was read doesn't apply, it is refused
pub one_refused : (p : ℕ) (es : List Event) (read : Option (Event × List ℕ)) (x : Event) (after : List ℕ) → read ≡ Some (x, after) → IsFalse (applies p es x) → IsRefused p es read
one_refused p es read x after is fails e rest some =
    subst (λ (y : Event). IsFalse (applies p es y)) (ap (λ (q : Event × List ℕ). q.0) (some_is (x, after) (e, rest) (sym is ∙ some))) fails

-- ---- a batch as it is read

read_of : (read : Option (Batch × List ℕ)) (told : ℕ × List Event) (rest : List ℕ) → made_at upshot_of (λ bytes. read) [] ≡ Some (told, rest)
    → (one : Batch) × (read ≡ Some (one, rest)) × (upshot_of one ≡ told)
read_of (Some x) told rest is =
    let same = some_is (upshot_of x.0, x.1) (told, rest) is in
    (x.0, ap (λ (bytes : List ℕ). Some (x.0, bytes)) (ap (λ (q : (ℕ × List Event) × List ℕ). q.1) same), ap (λ (q : (ℕ × List Event) × List ℕ). q.0) same)
read_of None told rest is = absurd cc

events_read : (m : ℕ) (read : Option (List Event × List ℕ)) (told : ℕ × List Event) (rest : List ℕ) → made_at (λ es. (m, es)) (λ bytes. read) [] ≡ Some (told, rest)
    → read ≡ Some (told.1, rest)
events_read m (Some x) told rest is =
    let same = some_is ((m, x.0), x.1) (told, rest) is in
    ap (λ (q : (ℕ × List Event) × List ℕ). Some (q.0.1, q.1)) same
events_read m None told rest is = absurd cc

-- the batch whose heading and events were read, with nothing behind them
pub batch_read : (body rest : List ℕ) (heading : Heading) (events : List Event) → IsBytes body → upshot_at body ≡ upshot_behind heading rest → events_at heading.events rest ≡ Some (events, [])
    → (one : Batch) × IsBatch one × (body ≡ bytes_of one) × (one.moment ≡ heading.moment) × (events_in one.outcome ≡ events)
batch_read body rest heading events h whole is =
    let upshot : upshot_at body ≡ Some ((heading.moment, events), []) = whole ∙ ap (λ (read : Option (List Event × List ℕ)). made_at (λ es. (heading.moment, es)) (λ bytes. read) rest) is in
    let one = read_of (layouts.batch.reading body) (heading.moment, events) [] upshot in
    let fits = found one.0 body [] h one.1 refl in
    (one.0, fits.0, fits.1, ap (λ (q : ℕ × List Event). q.0) one.2, ap (λ (q : ℕ × List Event). q.1) one.2)

-- where the events behind a heading are refused, the body is bad
pub bad_events : (p : ℕ) (log : List Batch) (body rest : List ℕ) (heading : Heading) → upshot_at body ≡ upshot_behind heading rest
    → AreRefused p (events_of log) (events_at heading.events rest) → IsBadBody p log body
bad_events p log body rest heading whole refused batch fits spelled applies_too =
    let all : upshot_at body ≡ Some (upshot_of batch, []) = ap (λ (read : Option (Batch × List ℕ)). made_at upshot_of (λ bytes. read) body) (read_whole batch body fits spelled) in
    let is = events_read heading.moment (events_at heading.events rest) (upshot_of batch) [] (sym whole ∙ all) in
    let fails = refused (events_in batch.outcome) is in
    grind (arith, fails, applies_too)

-- where there is no heading, the body is bad
pub bad_heading : (p : ℕ) (log : List Batch) (body : List ℕ) → upshot_at body ≡ None → IsBadBody p log body
bad_heading p log body none batch fits spelled applies_too =
    let all : upshot_at body ≡ Some (upshot_of batch, []) = ap (λ (read : Option (Batch × List ℕ)). made_at upshot_of (λ bytes. read) body) (read_whole batch body fits spelled) in
    absurd cc

-- a batch was read event by event, and one more is known
pub known_read : (p : ℕ) (log : List Batch) (body rest : List ℕ) (heading : Heading) (old new : Known) → IsBytes body → upshot_at body ≡ upshot_behind heading rest → IsKnown p log old
    → partition_of new.state ≡ partition_of old.state → AreTaken (partition_of old.state) (events_of log) (events_at heading.events rest) new.state → heading.moment ≡ new.last_moment
    → (batch : Batch) × (body ≡ bytes_of batch) × IsKnown p (log ++ batch ∷ []) new
known_read p log body rest heading old new h whole known place taken moment =
    let one = batch_read body rest heading taken.0 h whole taken.1 in
    let Applies : List Event → Type 0 = λ l. IsTrue (all_apply (partition_of old.state) (events_of log) l) in
    let Is : List Event → Type 0 = λ l. IsStateOf (events_of log ++ l) new.state in
    (one.0, one.2, known_more p log one.0 old new one.1 known place (subst Applies (sym one.4) taken.2) (subst Is (sym one.4) taken.3) (one.3 ∙ moment))

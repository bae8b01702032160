-- A file stands for one log, and has one first bad frame.
use Rattle.std.proofs.Common.{◌≡◌, ◌⊎◌, ◌∷◌, ◌++◌, List, [], ℕ, length, IsTrue, refl, sym, ap, ◌∙◌, subst, arith, inl, inr, append-nil}
use Rattle.std.specs.Prelude.{slice_index}
use Rattle.std.proofs.lemmas.Grind.{flat_map-append}
use Rattle.std.proofs.lemmas.List.{length-map}
use Rattle.zb_model.specs.declared.record.Event.{Event}
use Rattle.zb_model.specs.declared.record.Batch.{Batch}
use Rattle.zb_model.specs.Record.{bytes_of}
use Rattle.zb_model.specs.RecordFits.{IsBatch}
use Rattle.zb_views.specs.View.{events_of, events_in}
use Rattle.zb_rules.specs.Applies.{all_apply}
use Rattle.zb_rules.proofs.StepLaws.{all_apply_on}
use Rattle.zb_store.specs.Stands.{next_gate, IsFrame, Leads, Stands}
use Rattle.zb_partition.specs.Log.{bodies_of, AreBatches, IsApplied, IsBadAt}
use Rattle.zb_partition.proofs.ReadingLemmas.{one_batch}

-- batches of one spelling are the same
pub same_log : (a b : List Batch) → AreBatches a → AreBatches b → bodies_of a ≡ bodies_of b → a ≡ b
same_log [] [] of_a of_b same = refl
same_log [] (y ∷ ys) of_a of_b same = absurd cc
same_log (x ∷ xs) [] of_a of_b same = absurd cc
same_log (x ∷ xs) (y ∷ ys) of_a of_b same =
    let first : bytes_of x ≡ bytes_of y = cc in
    let rest : bodies_of xs ≡ bodies_of ys = cc in
    ap (λ (b : Batch). b ∷ xs) (one_batch x y of_a.0 of_b.0 first) ∙ ap (λ (bs : List Batch). y ∷ bs) (same_log xs ys of_a.1 of_b.1 rest)

-- of two ways from a gate one goes on from where the other ends
one_goes_on : (file : List ℕ) (at : ℕ) (xs ys : List (List ℕ)) (e f : ℕ) → Leads file at xs e → Leads file at ys f
    → ((more : List (List ℕ)) × (ys ≡ xs ++ more) × Leads file e more f) ⊎ ((more : List (List ℕ)) × (xs ≡ ys ++ more) × Leads file f more e)
one_goes_on file at [] ys e f to_e to_f = inl (ys, refl, subst (λ (n : ℕ). Leads file n ys f) to_e to_f)
one_goes_on file at (x ∷ xs) [] e f to_e to_f = inr (x ∷ xs, refl, subst (λ (n : ℕ). Leads file n (x ∷ xs) e) to_f to_e)
one_goes_on file at (x ∷ xs) (y ∷ ys) e f to_e to_f =
    let same : x ≡ y = to_e.0.body_is ∙ sym to_f.0.body_is in
    elim (one_goes_on file (next_gate file at) xs ys e f to_e.1 to_f.1) [
      | inl on ↦ inl (on.0, ap (λ (bs : List (List ℕ)). y ∷ bs) on.1 ∙ ap (λ (b : List ℕ). b ∷ (xs ++ on.0)) (sym same), on.2)
      | inr on ↦ inr (on.0, ap (λ (bs : List (List ℕ)). x ∷ bs) on.1 ∙ ap (λ (b : List ℕ). b ∷ (ys ++ on.0)) same, on.2)
    ]

-- where the bodies of a log begin with those of another, so does the log
splits_at : (front log : List Batch) (body : List ℕ) (more : List (List ℕ)) → AreBatches front → AreBatches log → bodies_of log ≡ bodies_of front ++ body ∷ more
    → (batch : Batch) × (rest : List Batch) × (log ≡ front ++ batch ∷ rest) × IsBatch batch × (body ≡ bytes_of batch)
splits_at [] [] body more of_front of_log same = absurd cc
splits_at [] (b ∷ bs) body more of_front of_log same = let first : body ≡ bytes_of b = cc in (b, bs, refl, of_log.0, first)
splits_at (x ∷ xs) [] body more of_front of_log same = absurd cc
splits_at (x ∷ xs) (b ∷ bs) body more of_front of_log same =
    let first : bytes_of b ≡ bytes_of x = cc in
    let behind : bodies_of bs ≡ bodies_of xs ++ body ∷ more = cc in
    let rest = splits_at xs bs body more of_front.1 of_log.1 behind in
    let one : b ≡ x = one_batch b x of_log.0 of_front.0 first in (
      rest.0,
      rest.1,
      ap (λ (l : List Batch). b ∷ l) rest.2 ∙ ap (λ (c : Batch). c ∷ (xs ++ rest.0 ∷ rest.1)) one,
      rest.3,
      rest.4,
    )

-- each batch of a good log applies to those before it
next_applies : (p : ℕ) (front : List Batch) (batch : Batch) (rest : List Batch) → IsApplied p (front ++ batch ∷ rest) → IsTrue (all_apply p (events_of front) (events_in batch.outcome))
next_applies p front batch rest applied =
    let here = events_in batch.outcome in
    let split : events_of (front ++ batch ∷ rest) ≡ events_of front ++ (here ++ events_of rest) = flat_map-append (λ (b : Batch). events_in b.outcome) front (batch ∷ rest) in
    let all : IsTrue (all_apply p [] (events_of front ++ (here ++ events_of rest))) = subst (λ (es : List Event). IsTrue (all_apply p [] es)) split applied in
    let first = all_apply_on p [] (events_of front) (here ++ events_of rest) in
    let second = all_apply_on p (events_of front) here (events_of rest) in
    grind (arith, all, first, second)

-- no good log has a frame that is bad
bad_in_good : (p : ℕ) (file : List ℕ) (frame : ℕ) (log : List Batch) (body : List ℕ) (more : List (List ℕ)) (bad : IsBadAt p file frame) → AreBatches log → IsApplied p log
    → bodies_of log ≡ bodies_of bad.log ++ body ∷ more → IsFrame file bad.gate body → ⊥
bad_in_good p file frame log body more bad fits applied same at = elim bad.bad [
  | inl bad_body ↦
      let cut = splits_at bad.log log body more bad.fits fits same in
      let good = next_applies p bad.log cut.0 cut.1 (subst (λ (l : List Batch). IsApplied p l) cut.2 applied) in
      let one : bad_body.0 ≡ body = bad_body.1.body_is ∙ sym at.body_is in
      bad_body.2 cut.0 cut.3 (one ∙ cut.4) good
  | inr past ↦ absurd (omega (arith, at.fits, past.past))
]

-- the gate of a bad frame is open
bad_is_open : (p : ℕ) (file : List ℕ) (frame : ℕ) (bad : IsBadAt p file frame) → slice_index file bad.gate ≡ 0 → ⊥
bad_is_open p file frame bad closed = elim bad.bad [
  | inl bad_body ↦ bad_body.1.is_open closed
  | inr past ↦ past.is_open closed
]

-- a good log that goes on to a closed gate from where a bad frame is
good_behind : (p : ℕ) (file : List ℕ) (frame end : ℕ) (log : List Batch) (bad : IsBadAt p file frame) (more : List (List ℕ)) → AreBatches log → IsApplied p log
    → bodies_of log ≡ bodies_of bad.log ++ more → Leads file bad.gate more end → slice_index file end ≡ 0 → ⊥
good_behind p file frame end log bad [] fits applied same leads closed = bad_is_open p file frame bad (ap (λ (n : ℕ). slice_index file n) leads ∙ closed)
good_behind p file frame end log bad (body ∷ more) fits applied same leads closed = bad_in_good p file frame log body more bad fits applied same leads.0

-- a bad frame behind a closed gate
bad_behind : (p : ℕ) (file : List ℕ) (frame end : ℕ) (bad : IsBadAt p file frame) (more : List (List ℕ)) → Leads file end more bad.gate → slice_index file end ≡ 0 → ⊥
bad_behind p file frame end bad [] leads closed = bad_is_open p file frame bad (ap (λ (n : ℕ). slice_index file n) (sym leads) ∙ closed)
bad_behind p file frame end bad (body ∷ more) leads closed = leads.0.is_open closed

-- a file that stands for a good log has no bad frame
pub none_bad : (p : ℕ) (file : List ℕ) (log : List Batch) (frame : ℕ) → AreBatches log → IsApplied p log → Stands file (bodies_of log) → IsBadAt p file frame → ⊥
none_bad p file log frame fits applied stands bad =
    let way = stands.long bad.long in
    elim (one_goes_on file 0 (bodies_of bad.log) (bodies_of log) bad.gate way.0 bad.leads way.1) [
      | inl on ↦ good_behind p file frame way.0 log bad on.0 fits applied on.1 on.2 way.2
      | inr on ↦ bad_behind p file frame way.0 bad on.0 on.2 way.2
    ]

-- two bad frames, of which the first log leads as far as the second, or farther
first_of_two : (p : ℕ) (file : List ℕ) (m n : ℕ) (a : IsBadAt p file m) (b : IsBadAt p file n) (more : List (List ℕ)) → bodies_of b.log ≡ bodies_of a.log ++ more → Leads file a.gate more b.gate → m ≡ n
first_of_two p file m n a b [] same leads =
    let one : length b.log ≡ length a.log = omega (arith, ap length same, length-map b.log bytes_of, length-map a.log bytes_of, ap length (append-nil (bodies_of a.log))) in
    sym a.count ∙ sym one ∙ b.count
first_of_two p file m n a b (body ∷ more) same leads = absurd (bad_in_good p file m b.log body more a b.fits b.applied same leads.0)

-- only one frame is the first bad one
pub one_frame : (p : ℕ) (file : List ℕ) (m n : ℕ) → IsBadAt p file m → IsBadAt p file n → m ≡ n
one_frame p file m n a b = elim (one_goes_on file 0 (bodies_of a.log) (bodies_of b.log) a.gate b.gate a.leads b.leads) [
  | inl on ↦ first_of_two p file m n a b on.0 on.1 on.2
  | inr on ↦ sym (first_of_two p file n m b a on.0 on.1 on.2)
]

-- Laws of a list whose members each stand on those before it, and of a log as it grows by a batch.
use Rattle.std.proofs.Common.{Bool, true, false, ◌≡◌, ℕ, List, [], ◌∷◌, ◌++◌, length, slice_get, Some, take, drop, ◌<◌, refl, inl, inr, ap, sym, ◌∙◌, arith, get_or, subst, append-nil, append_assoc, ◌&&◌}
use Rattle.std.proofs.lemmas.List.{take-append-le, take-append-drop, get_or-take, get_or_append_left, length-append, length-take}
use Rattle.std.proofs.lemmas.Option.{slice_get_within, get_or_from_slice_get, slice_get-get_or}
use Rattle.std.proofs.lemmas.Bool.{cases_lt}
use Rattle.std.proofs.Math.Seq.{take-append_seam, get_or-append_seam}
use Rattle.zb_model.specs.declared.record.Event.{Event}
use Rattle.zb_model.specs.declared.record.Batch.{Batch}
use Rattle.zb_rules.specs.Step.{IsStep, EachOn, AreStepsOn}
use Rattle.zb_rules.specs.Applies.{applies, all_apply}
use Rattle.zb_rules.specs.Legal.{AllLegal}

-- each of none
pub each_on_none : {A : Type 0} (R : List A → A → Type 0) (first : List A) → EachOn R first []
each_on_none R first k x h = cc

-- each of some, and one on them
pub each_on_more : {A : Type 0} (R : List A → A → Type 0) (first more : List A) (x : A) → EachOn R first more → R (first ++ more) x → EachOn R first (more ++ x ∷ [])
each_on_more R first more x before is k b h =
    let within = slice_get_within (more ++ x ∷ []) k b h in
    let here : get_or (more ++ x ∷ []) k b ≡ b = get_or_from_slice_get (more ++ x ∷ []) k b b h in
    elim (cases_lt k (length more)) [
      | inl lt ↦
          let at : slice_get more k ≡ Some b = slice_get-get_or more k b lt ∙ ap Some (sym (get_or_append_left more (x ∷ []) b k lt) ∙ here) in
          rw (take-append-le k more (x ∷ []) (omega arith)) (before k b at)
      | inr ge ↦
          let end : k ≡ length more = omega (arith, length-append more (x ∷ []), within) in
          let last : get_or (more ++ x ∷ []) (length more) b ≡ x = get_or-append_seam more x [] b in
          let same : x ≡ b = cc in
          rw (end, take-append_seam more (x ∷ [])) (subst (R (first ++ more)) same is)
    ]

-- a member of the first few is one of all, at its place
pub taken_at : {A : Type 0} (count : ℕ) (more : List A) (k : ℕ) (x : A) → slice_get (take count more) k ≡ Some x → (k < count) × (k < length more) × (slice_get more k ≡ Some x)
taken_at count more k x h =
    let within = slice_get_within (take count more) k x h in
    let bounds = length-take count more in
    let here : get_or (take count more) k x ≡ x = get_or_from_slice_get (take count more) k x x h in
    let below : k < count = omega (arith, within, bounds) in
    let inside : k < length more = omega (arith, within, bounds) in
    (below, inside, slice_get-get_or more k x inside ∙ ap Some (sym (get_or-take count more k x below) ∙ here))

-- each of the first few
pub each_on_front : {A : Type 0} (R : List A → A → Type 0) (first more : List A) (count : ℕ) → EachOn R first more → EachOn R first (take count more)
each_on_front R first more count each k x h =
    let within = slice_get_within (take count more) k x h in
    let fronts : take count more ++ drop count more ≡ more = take-append-drop count more in
    let same : take k (take count more ++ drop count more) ≡ take k (take count more) = take-append-le k (take count more) (drop count more) (omega (arith, within)) in
    let same_front : take k (take count more) ≡ take k more = sym same ∙ ap (take k) fronts in
    rw same_front (each k x (taken_at count more k x h).2)

-- a property that goes on over each member
module _ {A : Type 0} (R : List A → A → Type 0) (first : List A) (P : List A → Type 0) (goes_on : (front : List A) (x : A) → EachOn R first front → P front → R (first ++ front) x → P (front ++ x ∷ [])) where
  each_on_from : (front more : List A) → EachOn R first (front ++ more) → P front → P (front ++ more)
  each_on_from front [] each here = rw (append-nil front) here
  each_on_from front (x ∷ more) each here =
      let seam : take (length front) (front ++ x ∷ more) ≡ front = take-append_seam front (x ∷ more) in
      let of_front : EachOn R first front = subst (EachOn R first) seam (each_on_front R first (front ++ x ∷ more) (length front) each) in
      let within : length front < length (front ++ x ∷ more) = omega (arith, length-append front (x ∷ more)) in
      let at : slice_get (front ++ x ∷ more) (length front) ≡ Some x = slice_get-get_or (front ++ x ∷ more) (length front) x within ∙ ap Some (get_or-append_seam front x more x) in
      let next : R (first ++ front) x = subst (λ (before : List A). R (first ++ before) x) seam (each (length front) x at) in
      let regroup : (front ++ x ∷ []) ++ more ≡ front ++ x ∷ more = append_assoc front (x ∷ []) more in
      subst P regroup (each_on_from (front ++ x ∷ []) more (subst (EachOn R first) (sym regroup) each) (goes_on front x of_front here next))

  -- where it holds of none, it holds of all
  pub each_on_all : P [] → (more : List A) → EachOn R first more → P more
  each_on_all none more each = each_on_from [] more each none

-- each of some, and each of more behind them
pub each_on_joined : {A : Type 0} (R : List A → A → Type 0) (first more rest : List A) → EachOn R first more → EachOn R (first ++ more) rest → EachOn R first (more ++ rest)
each_on_joined {A} R first more rest each =
    each_on_all R (first ++ more) (λ (rest : List A). EachOn R first (more ++ rest))
    (λ (front : List A) (x : A) behind joined is.
    let next : R (first ++ (more ++ front)) x = subst (λ (before : List A). R before x) (append_assoc first more front) is in
    subst (EachOn R first) (append_assoc more front (x ∷ [])) (each_on_more R first (more ++ front) x joined next))
    (subst (EachOn R first) (sym (append-nil more)) each)
    rest

-- no batches are steps
pub are_steps_none : (p n : ℕ) (log : List Batch) → AreStepsOn p n log []
are_steps_none p n log = each_on_none (IsStep p n) log

-- steps, and a step on them
pub are_steps_more : (p n : ℕ) (log more : List Batch) (batch : Batch) → AreStepsOn p n log more → IsStep p n (log ++ more) batch → AreStepsOn p n log (more ++ batch ∷ [])
are_steps_more p n log more batch = each_on_more (IsStep p n) log more batch

joined_tests : (a b c : Bool) → (a && (b && c)) ≡ ((a && b) && c)
joined_tests true b c = refl
joined_tests false b c = refl

-- each of some events applies, and one behind them
pub all_apply_more : (p : ℕ) (before es : List Event) (e : Event) → all_apply p before (es ++ e ∷ []) ≡ (all_apply p before es && applies p (before ++ es) e)
all_apply_more p before [] e = rw (append-nil before) (grind arith)
all_apply_more p before (x ∷ es) e = rw (all_apply_more p (before ++ x ∷ []) es e, append_assoc before (x ∷ []) es) (joined_tests (applies p before x) (all_apply p (before ++ x ∷ []) es) (applies p (before ++ x ∷ es) e))

-- each of some events applies, and each of those behind them
pub all_apply_on : (p : ℕ) (before es more : List Event) → all_apply p before (es ++ more) ≡ (all_apply p before es && all_apply p (before ++ es) more)
all_apply_on p before [] more = rw (append-nil before) refl
all_apply_on p before (x ∷ es) more = rw (all_apply_on p (before ++ x ∷ []) es more, append_assoc before (x ∷ []) es) (joined_tests (applies p before x) (all_apply p (before ++ x ∷ []) es) (all_apply p (before ++ x ∷ es) more))

-- legal moves, and those behind them
pub all_legal_on : (moment : ℕ) (seen before es more : List Event) → AllLegal moment seen before es → AllLegal moment seen (before ++ es) more → AllLegal moment seen before (es ++ more)
all_legal_on moment seen before [] more each behind = subst (λ (l : List Event). AllLegal moment seen l more) (append-nil before) behind
all_legal_on moment seen before (e ∷ es) more each behind =
    (each.0, all_legal_on moment seen (before ++ e ∷ []) es more each.1 (subst (λ (l : List Event). AllLegal moment seen l more) (sym (append_assoc before (e ∷ []) es)) behind))

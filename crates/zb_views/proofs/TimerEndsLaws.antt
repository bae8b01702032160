-- In a log whose events fit its timers the keys of the timers ascend, and each timer is made at most once, and ends at most once.
use Rattle.std.proofs.Common.{◌≡◌, ℕ, ◌+◌, ◌<◌, ◌≤◌, ◌==◌, nat_lt, List, [], ◌∷◌, ◌++◌, count_by, not, Bool, true, false, ◌&&◌, cond, IsTrue, is_some, Option, Some, None, refl, sym, ap, subst, ◌∙◌, append_assoc, append-nil, arith}
use Rattle.std.specs.Option.{option_map_or}
use Rattle.std.specs.List.{find}
use Rattle.std.proofs.lemmas.Bool.Decides.{nat_tests}
use Rattle.std.proofs.lemmas.List.Sums.{sum_by_push, sum_by-append}
use Rattle.zb_model.specs.declared.record.Event.{Event}
use Rattle.zb_table.specs.Rows.{Ascend, are_below}
use Rattle.zb_table.proofs.Ascending.{ascend_more}
use Rattle.zb_table.proofs.Growing.{below_more}
use Rattle.zb_pairs.proofs.FoundLemmas.{ascend_kept}
use Rattle.zb_views.specs.declared.timer.Timer.{Timer}
use Rattle.zb_views.specs.Timers.{timer_told, timer_ended, ends_timer, timers, timer_at, timers_made, makes_timer, times_timer_made, times_timer_ended, makes_later_timer, ends_timer_there, fits_timers, all_fit_timers}
use Rattle.zb_views.specs.Standing.{begun_by}
use Rattle.zb_views.proofs.StandingLaws.{below_some}
use Rattle.zb_views.proofs.TimerLaws.{timers_left, timers_more}

-- both hold
both : (a b : Bool) → (a && b) ≡ true → (a ≡ true) × (b ≡ true)
both true true is = (refl, refl)
both true false is = absurd (cc)
both false b is = absurd (cc)

-- the key of the timer that an event makes, if it does
abbrev pub keys_told : Option Timer → List ℕ
keys_told told = option_map_or (λ t. t.key ∷ []) told []

-- the keys of all timers that were made
pub made_more : (es : List Event) (e : Event) → timers_made (es ++ e ∷ []) ≡ timers_made es ++ keys_told (timer_told e)
made_more [] e = append-nil (keys_told (timer_told e))
made_more (x ∷ es) e = ap (λ (ks : List ℕ). keys_told (timer_told x) ++ ks) (made_more es e) ∙ sym (append_assoc (keys_told (timer_told x)) (timers_made es) (keys_told (timer_told e)))

-- how many pass, with one more in front
count_front : {A : Type 0} (p : A → Bool) (x : A) (xs : List A) → count_by p (x ∷ xs) ≡ cond (p x) 1 0 + count_by p xs
count_front {A} p x xs = sum_by-append (λ (y : A). cond (p y) 1 0) (x ∷ []) xs ∙ omega arith

-- how many timers of a key there are
abbrev count_of : ℕ → List Timer → ℕ
count_of key ts = count_by (λ t. t.key == key) ts

-- a timer with the key is counted
one_counted : (key : ℕ) (ts : List Timer) → is_some (find (λ t. t.key == key) ts) ≡ true → 1 ≤ count_of key ts
one_counted key [] is = absurd (cc)
one_counted key (t ∷ ts) is = rw (count_front (λ (x : Timer). x.key == key) t ts) (by_test (t.key == key) is (one_counted key ts))
  where
    by_test : (s : Bool) → is_some (cond s (Some t) (find (λ x. x.key == key) ts)) ≡ true → (is_some (find (λ x. x.key == key) ts) ≡ true → 1 ≤ count_of key ts) → 1 ≤ cond s 1 0 + count_of key ts
    by_test true is later = omega arith
    by_test false is later = let rest = later is in omega (arith, rest)

-- those that an event leaves
left_counted : (key : ℕ) (e : Event) (ts : List Timer) → count_of key (timers_left e ts) ≡ cond (ends_timer key e) 0 (count_of key ts)
left_counted key e [] = by_test (ends_timer key e)
  where
    by_test : (s : Bool) → ◌≡◌ {A = ℕ} 0 (cond s 0 0)
    by_test true = refl
    by_test false = refl
left_counted key e (t ∷ ts) = rw (count_front (λ (x : Timer). x.key == key) t ts) (by_tests (ends_timer t.key e) (t.key == key) (ends_timer key e) refl (same_end (timer_ended e)) (left_counted key e ts))
  where
    same_end : (ended : Option ℕ) → (t.key == key) ≡ true → option_map_or (λ k. t.key == k) ended false ≡ option_map_or (λ k. key == k) ended false
    same_end ended same = let is : t.key ≡ key = grind (arith, nat_tests, same) in ap (λ (n : ℕ). option_map_or (λ k. n == k) ended false) is

    by_tests : (ends same has : Bool) → (t.key == key) ≡ same → (same ≡ true → ends ≡ has) → count_of key (timers_left e ts) ≡ cond has 0 (count_of key ts)
        → count_of key (cond (not ends) (t ∷ timers_left e ts) (timers_left e ts)) ≡ cond has 0 (cond same 1 0 + count_of key ts)
    by_tests true same true is one later = later
    by_tests true true false is one later = absurd (let it = one refl in cc)
    by_tests true false false is one later = omega (arith, later)
    by_tests false true true is one later = absurd (let it = one refl in cc)
    by_tests false false true is one later = rw (count_front (λ (x : Timer). x.key == key) t (timers_left e ts), is) (omega (arith, later))
    by_tests false same false is one later = rw (count_front (λ (x : Timer). x.key == key) t (timers_left e ts), is) (ap (λ (n : ℕ). cond same 1 0 + n) later)

-- the key of a timer that is later than all that were made is new
none_made : (key high : ℕ) (es : List Event) → are_below (λ k. k) high (timers_made es) ≡ true → high ≤ key → times_timer_made key es ≡ 0
none_made key high [] below least = refl
none_made key high (x ∷ es) below least = rw (count_front (makes_timer key) x es) (by_told (timer_told x) below (none_made key high es))
  where
    by_told : (told : Option Timer) → are_below (λ k. k) high (keys_told told ++ timers_made es) ≡ true → (are_below (λ k. k) high (timers_made es) ≡ true → high ≤ key → times_timer_made key es ≡ 0)
        → cond (option_map_or (λ t. t.key == key) told false) 1 0 + times_timer_made key es ≡ 0
    by_told None below later = let none = later below least in omega (arith, none)
    by_told (Some t) below later =
        let its = both (nat_lt t.key high) (are_below (λ k. k) high (timers_made es)) below in
        let apart : (t.key == key) ≡ false = (let less = its.0 in grind (arith, nat_tests, less, least)) in
        let none = later its.1 least in
        rw apart (omega (arith, none))

-- what the events so far say of timers: their keys ascend, and each that was made was made once, and is there or was ended once
record IsSettled (es : List Event) : Type 0 where
  ascend : Ascend (λ (t : Timer). t.key) 0 (timers es)
  below : (high : ℕ) → are_below (λ k. k) high (timers_made es) ≡ true → are_below (λ (t : Timer). t.key) high (timers es) ≡ true
  counts : (key : ℕ) → times_timer_made key es ≡ times_timer_ended key es + count_of key (timers es)
  once : (key : ℕ) → times_timer_made key es ≤ 1

-- what is below a key with one more, is so without it
below_both : (high k : ℕ) (ks : List ℕ) → are_below (λ x. x) high (ks ++ k ∷ []) ≡ true → (are_below (λ x. x) high ks ≡ true) × (k < high)
below_both high k [] below = (refl, grind (arith, nat_tests, both (nat_lt k high) true below))
below_both high k (x ∷ ks) below =
    let its = both (nat_lt x high) (are_below (λ y. y) high (ks ++ k ∷ [])) below in
    let later = below_both high k ks its.1 in
    (rw (its.0, later.0) refl, later.1)

module _ (before : List Event) (e : Event) (s : IsSettled before) where
  -- those that the event leaves, and the one that it makes, if it does
  ascend_by : (told : Option Timer) → makes_later_timer before told ≡ true → Ascend (λ (t : Timer). t.key) 0 (timers_left e (timers before) ++ begun_by told)
  ascend_by None later = subst (λ (ts : List Timer). Ascend (λ (t : Timer). t.key) 0 ts) (sym (append-nil (timers_left e (timers before)))) (ascend_kept (λ (t : Timer). t.key) (λ (t : Timer). not (ends_timer t.key e)) 0 (timers before) s.ascend)
  ascend_by (Some t) later =
      let keeps : Timer → Bool = λ x. not (ends_timer x.key e) in
      ascend_more (λ (x : Timer). x.key) 0 (timers_left e (timers before)) t (omega arith) (ascend_kept (λ (t : Timer). t.key) keeps 0 (timers before) s.ascend) (below_some (λ (x : Timer). x.key) t.key keeps (timers before) (s.below t.key later))

  below_by : (told : Option Timer) (high : ℕ) → are_below (λ k. k) high (timers_made before ++ keys_told told) ≡ true → are_below (λ (t : Timer). t.key) high (timers_left e (timers before) ++ begun_by told) ≡ true
  below_by None high below =
      let all : are_below (λ k. k) high (timers_made before) ≡ true = ap (are_below (λ (k : ℕ). k) high) (sym (append-nil (timers_made before))) ∙ below in
      ap (are_below (λ (t : Timer). t.key) high) (append-nil (timers_left e (timers before))) ∙ below_some (λ (t : Timer). t.key) high (λ (t : Timer). not (ends_timer t.key e)) (timers before) (s.below high all)
  below_by (Some t) high below =
      let its = below_both high t.key (timers_made before) below in
      below_more (λ (x : Timer). x.key) high (timers_left e (timers before)) t its.1 (below_some (λ (x : Timer). x.key) high (λ (x : Timer). not (ends_timer x.key e)) (timers before) (s.below high its.0))

  -- how many of a key are made: none where one was before
  new_by : (key : ℕ) (told : Option Timer) → makes_later_timer before told ≡ true → times_timer_made key before + cond (option_map_or (λ t. t.key == key) told false) 1 0 ≤ 1
  new_by key None later = omega (arith, s.once key)
  new_by key (Some t) later = by_test (t.key == key) refl
    where
      by_test : (u : Bool) → (t.key == key) ≡ u → times_timer_made key before + cond u 1 0 ≤ 1
      by_test true same =
          let least : t.key ≤ key = grind (arith, nat_tests, same) in
          let none = none_made key t.key before later least in
          omega (arith, none)
      by_test false other = omega (arith, s.once key)

  -- how many of a key are there
  count_by_told : (key : ℕ) (told : Option Timer) → count_of key (timers_left e (timers before) ++ begun_by told) ≡ cond (ends_timer key e) 0 (count_of key (timers before)) + cond (option_map_or (λ t. t.key == key) told false) 1 0
  count_by_told key None = sum_by-append (λ (t : Timer). cond (t.key == key) 1 0) (timers_left e (timers before)) [] ∙ rw (left_counted key e (timers before)) refl
  count_by_told key (Some t) = sum_by-append (λ (x : Timer). cond (x.key == key) 1 0) (timers_left e (timers before)) (t ∷ []) ∙ rw (left_counted key e (timers before)) (omega arith)

  -- the one that it ends was there
  ended_there : (key : ℕ) (ended : Option ℕ) → ends_timer_there before ended ≡ true → option_map_or (λ k. key == k) ended false ≡ true → 1 ≤ count_of key (timers before)
  ended_there key None there is = absurd (cc)
  ended_there key (Some k) there is =
      let same : k ≡ key = grind (arith, nat_tests, is) in
      one_counted key (timers before) (ap (λ (n : ℕ). is_some (timer_at n before)) (sym same) ∙ there)

  counts_by : (key : ℕ) (ends makes : Bool) → (ends ≡ true → 1 ≤ count_of key (timers before))
      → times_timer_made key before + cond makes 1 0 ≡ (times_timer_ended key before + cond ends 1 0) + (cond ends 0 (count_of key (timers before)) + cond makes 1 0)
  counts_by key true makes there = let is = s.counts key in let most = s.once key in let some = there refl in omega (arith, is, most, some)
  counts_by key false makes there = let is = s.counts key in omega (arith, is)

  -- with one event more that fits
  settled_more : IsTrue (fits_timers before e) → IsSettled (before ++ e ∷ [])
  settled_more fits =
      let its = both (makes_later_timer before (timer_told e)) (ends_timer_there before (timer_ended e)) fits in
      record {
        ascend = subst (λ (ts : List Timer). Ascend (λ (t : Timer). t.key) 0 ts) (sym (timers_more before e)) (ascend_by (timer_told e) its.0);
        below = λ high is. ap (are_below (λ (t : Timer). t.key) high) (timers_more before e) ∙ below_by (timer_told e) high (ap (are_below (λ (k : ℕ). k) high) (sym (made_more before e)) ∙ is);
        counts = λ key.
            sum_by_push (λ (x : Event). cond (makes_timer key x) 1 0) before e
            ∙ (counts_by key (ends_timer key e) (makes_timer key e) (ended_there key (timer_ended e) its.1)
            ∙ rw (sum_by_push (λ (x : Event). cond (ends_timer key x) 1 0) before e, timers_more before e, count_by_told key (timer_told e)) refl);
        once = λ key. rw (sum_by_push (λ (x : Event). cond (makes_timer key x) 1 0) before e) (new_by key (timer_told e) its.0);
      }

-- events that all fit, and one more that fits
pub all_fit_more : (front es : List Event) (e : Event) → IsTrue (all_fit_timers front es) → IsTrue (fits_timers (front ++ es) e) → IsTrue (all_fit_timers front (es ++ e ∷ []))
all_fit_more front [] e all fits = let here : fits_timers front e ≡ true = ap (λ (es : List Event). fits_timers es e) (sym (append-nil front)) ∙ fits in rw here refl
all_fit_more front (x ∷ es) e all fits =
    let its = both (fits_timers front x) (all_fit_timers (front ++ x ∷ []) es) all in
    rw its.0 (all_fit_more (front ++ x ∷ []) es e its.1 (ap (λ (before : List Event). fits_timers before e) (append_assoc front (x ∷ []) es) ∙ fits))

settled_from : (before es : List Event) → IsSettled before → IsTrue (all_fit_timers before es) → IsSettled (before ++ es)
settled_from before [] s fit = subst IsSettled (sym (append-nil before)) s
settled_from before (e ∷ es) s fit =
    let its = both (fits_timers before e) (all_fit_timers (before ++ e ∷ []) es) fit in
    subst IsSettled (append_assoc before (e ∷ []) es) (settled_from (before ++ e ∷ []) es (settled_more before e s its.0) its.1)

settled : (es : List Event) → IsTrue (all_fit_timers [] es) → IsSettled es
settled es fit = settled_from [] es (record { ascend = tt; below = λ high is. refl; counts = λ key. refl; once = λ key. omega arith }) fit

-- the keys of the timers ascend
pub timers_ascend : (es : List Event) → IsTrue (all_fit_timers [] es) → Ascend (λ t. t.key) 0 (timers es)
timers_ascend es fit = (settled es fit).ascend

-- a timer is made at most once
pub timer_made_once : (es : List Event) (timer : ℕ) → IsTrue (all_fit_timers [] es) → times_timer_made timer es ≤ 1
timer_made_once es timer fit = (settled es fit).once timer

-- and ends at most once
pub timer_ends_once : (es : List Event) (timer : ℕ) → IsTrue (all_fit_timers [] es) → times_timer_ended timer es ≤ 1
timer_ends_once es timer fit = let s = settled es fit in let is = s.counts timer in let most = s.once timer in omega (arith, is, most)

-- In a log whose events apply each timer ends at most once, and is one of the log's partition.
use Rattle.std.proofs.Common.{◌≡◌, ℕ, ◌+◌, ◌/◌, ◌^◌, ◌≤◌, ◌==◌, List, [], ◌∷◌, ◌++◌, Bool, true, false, not, cond, IsTrue, is_some, Some, All, refl, sym, ◌∙◌, subst, append-nil, arith}
use Rattle.std.specs.List.{find}
use Rattle.std.proofs.lemmas.Bool.Decides.{nat_tests}
use Rattle.std.proofs.lemmas.List.Elements.{All-nil, All-cons, All-append, All-filter, All-head, All-tail}
use Rattle.std.proofs.lemmas.List.Sums.{sum_by_push}
use Rattle.zb_model.specs.declared.record.Event.{Event}
use Rattle.zb_model.specs.declared.record.Event.TheVariants as events
use Rattle.zb_table.specs.Rows.{are_below}
use Rattle.zb_table.proofs.Growing.{below_higher, below_more}
use Rattle.zb_views.specs.declared.timer.Timer.{Timer}
use Rattle.zb_views.specs.Timers.{timer_of, timer_told, ends_timer, timers, timers_made, times_timer_ended, fits_timers, all_fit_timers}
use Rattle.zb_views.specs.Standing.{begun_by}
use Rattle.zb_views.proofs.TimerLaws.{timers_left, timers_more}
use Rattle.zb_views.proofs.TimerEndsLaws.{keys_told, made_more, all_fit_more, timer_ends_once}
use Rattle.zb_views.specs.View.{next_key}
use Rattle.zb_tokens.specs.Board.{Board}
use Rattle.zb_tokens.proofs.GameLaws.{both_left}
use Rattle.zb_rules.specs.Shown.{board_of}
use Rattle.zb_rules.specs.Applies.{is_fresh, holds_own, all_apply}
use Rattle.zb_rules.proofs.AppliedLaws.{Advances, some_of, holds_of_all}
use Rattle.zb_rules.proofs.KeysLaws.{next_key_more, fresh_is, first_named, fresh_below}
use Rattle.zb_rules.proofs.JobEndsLaws.{IsKeyOf, fresh_home}
use Rattle.zb_rules.proofs.SoundLaws.{board_is_there}

-- what each event keeps: it fits the timers, whose keys were drawn before, and are of the partition
record KeepsTimers (p : ℕ) (es : List Event) (b : Board) : Type 0 where
  fit : IsTrue (all_fit_timers [] es)
  drawn : IsTrue (are_below (λ k. k) (next_key p es) (timers_made es))
  home : All (λ (t : Timer). IsKeyOf p t.key) (timers es)
  ended : (timer : ℕ) → 1 ≤ times_timer_ended timer es → IsKeyOf p timer

-- a timer that is found among some of the partition is one of it
found_home : (p key : ℕ) (ts : List Timer) → All (λ (t : Timer). IsKeyOf p t.key) ts → IsTrue (is_some (find (λ (t : Timer). t.key == key) ts)) → IsKeyOf p key
found_home p key [] home is = absurd (cc)
found_home p key (t ∷ ts) home is = by_test (t.key == key) refl is (found_home p key ts (All-tail (λ (x : Timer). IsKeyOf p x.key) t ts home))
  where
    by_test : (s : Bool) → (t.key == key) ≡ s → IsTrue (is_some (cond s (Some t) (find (λ (x : Timer). x.key == key) ts))) → (IsTrue (is_some (find (λ (x : Timer). x.key == key) ts)) → IsKeyOf p key) → IsKeyOf p key
    by_test true same there later = let its : t.key ≡ key = grind (arith, nat_tests, same) in subst (IsKeyOf p) its (All-head (λ (x : Timer). IsKeyOf p x.key) t ts home)
    by_test false other there later = later there

module _ (p : ℕ) (before : List Event) (b : Board) (k : KeepsTimers p before b) where
  fits_by : (e : Event) → IsTrue (holds_own p before e) → IsTrue (fits_timers before e)
  fits_by (events.TimerCreated c) own =
      let its = (fresh_is p before c.key (both_left (is_fresh p before c.key) _ own)).1 in
      let below : are_below (λ k. k) c.key (timers_made before) ≡ true = rw its k.drawn in
      rw below refl
  fits_by (events.TimerTriggered key) own = own
  fits_by (events.TimerCanceled key) own = own
  fits_by e own = refl

  drawn_by : (e : Event) → IsTrue (holds_own p before e) → IsTrue (are_below (λ k. k) (next_key p (before ++ e ∷ [])) (timers_made before ++ keys_told (timer_told e)))
  drawn_by e own = by_event e own (below_higher (λ k. k) (next_key p before) (next_key p (before ++ e ∷ [])) (timers_made before) (next_key_more p before e) k.drawn)
    where
      by_event : (x : Event) → IsTrue (holds_own p before x) → IsTrue (are_below (λ k. k) (next_key p (before ++ x ∷ [])) (timers_made before)) → IsTrue (are_below (λ k. k) (next_key p (before ++ x ∷ [])) (timers_made before ++ keys_told (timer_told x)))
      by_event (events.TimerCreated c) own below =
          let fresh = both_left (is_fresh p before c.key) _ own in
          below_more (λ k. k) (next_key p (before ++ events.TimerCreated c ∷ [])) (timers_made before) c.key (fresh_below p before (events.TimerCreated c) c.key fresh (first_named p c.key (c.cell ∷ []))) below
      by_event x own below = rw (append-nil (timers_made before)) below

  made_home : (e : Event) → IsTrue (holds_own p before e) → All (λ (t : Timer). IsKeyOf p t.key) (begun_by (timer_told e))
  made_home (events.TimerCreated c) own = All-cons (λ (t : Timer). IsKeyOf p t.key) (timer_of c) [] (fresh_home p before c.key (both_left (is_fresh p before c.key) _ own)) (All-nil (λ (t : Timer). IsKeyOf p t.key))
  made_home e own = All-nil (λ (t : Timer). IsKeyOf p t.key)

  -- a timer that an event ends is there
  ended_home_by : (timer : ℕ) (e : Event) → IsTrue (holds_own p before e) → ends_timer timer e ≡ true → IsKeyOf p timer
  ended_home_by timer (events.TimerTriggered key) own is = let same : timer ≡ key = grind (arith, nat_tests, is) in subst (IsKeyOf p) (sym same) (found_home p key (timers before) k.home own)
  ended_home_by timer (events.TimerCanceled key) own is = let same : timer ≡ key = grind (arith, nat_tests, is) in subst (IsKeyOf p) (sym same) (found_home p key (timers before) k.home own)
  ended_home_by timer e own is = absurd (cc)

keeps_timers : (p : ℕ) (before : List Event) (b : Board) (e : Event) (after : Board) → Advances p before b e after → KeepsTimers p before b → KeepsTimers p (before ++ e ∷ []) after
keeps_timers p before b e after h k = record {
  fit = all_fit_more [] before e k.fit (fits_by p before b k e h.own);
  drawn = subst (λ (ks : List ℕ). IsTrue (are_below (λ n. n) (next_key p (before ++ e ∷ [])) ks)) (sym (made_more before e)) (drawn_by p before b k e h.own);
  home =
      let Home : Timer → Type 0 = λ (t : Timer). IsKeyOf p t.key in
      subst (All Home) (sym (timers_more before e)) (All-append Home (timers_left e (timers before)) (begun_by (timer_told e)) (All-filter (λ (t : Timer). not (ends_timer t.key e)) Home (timers before) k.home) (made_home p before b k e h.own));
  ended = λ timer once. by_test timer (ends_timer timer e) refl once;
}
  where
    by_test : (timer : ℕ) (t : Bool) → ends_timer timer e ≡ t → 1 ≤ times_timer_ended timer (before ++ e ∷ []) → IsKeyOf p timer
    by_test timer true is once = ended_home_by p before b k timer e h.own is
    by_test timer false is once =
        let count : times_timer_ended timer (before ++ e ∷ []) ≡ times_timer_ended timer before + cond (ends_timer timer e) 1 0 = sum_by_push (λ (x : Event). cond (ends_timer timer x) 1 0) before e in
        let same : times_timer_ended timer (before ++ e ∷ []) ≡ times_timer_ended timer before = count ∙ rw is (omega arith) in
        k.ended timer (omega (arith, same, once))

timers_kept_well : (p : ℕ) (es : List Event) → IsTrue (all_apply p [] es) → (b : Board) × KeepsTimers p es b
timers_kept_well p es apply =
    let found = some_of (board_of es) (board_is_there p es apply) in
    (found.0, holds_of_all p (KeepsTimers p) (keeps_timers p) es found.0 (record { fit = refl; drawn = refl; home = All-nil (λ (t : Timer). IsKeyOf p t.key); ended = λ timer once. absurd (omega (arith, once)) }) apply found.1)

-- a timer ends at most once
pub timer_ended_once : (p : ℕ) (es : List Event) (timer : ℕ) → IsTrue (all_apply p [] es) → times_timer_ended timer es ≤ 1
timer_ended_once p es timer apply = timer_ends_once es timer (timers_kept_well p es apply).1.fit

-- and one that does is one of the partition
pub timer_ended_home : (p : ℕ) (es : List Event) (timer : ℕ) → IsTrue (all_apply p [] es) → 1 ≤ times_timer_ended timer es → timer / 2 ^ 51 ≡ p
timer_ended_home p es timer apply once = (timers_kept_well p es apply).1.ended timer once

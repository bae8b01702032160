-- Laws of the timers of a log whose events apply, and of those that are canceled one after the other.
use Rattle.std.proofs.Common.{◌≡◌, ℕ, ◌+◌, ◌≤◌, ◌<◌, ◌==◌, List, [], ◌∷◌, ◌++◌, map, filter, get_or, length, Bool, true, false, not, cond, IsTrue, is_some, Option, Some, None, All, refl, sym, ap, subst, ◌∙◌, append-nil, append_assoc, arith}
use Rattle.std.specs.List.{find}
use Rattle.std.proofs.lemmas.Bool.Decides.{nat_tests}
use Rattle.std.proofs.lemmas.List.Elements.{All-nil, All-head, All-tail, All-push, All-filter, All-weaker}
use Rattle.zb_instance_records.specs.declared.happening.TimerCreated.{TimerCreated}
use Rattle.zb_model.specs.declared.record.Event.{Event}
use Rattle.zb_model.specs.declared.record.Event.TheVariants as events
use Rattle.zb_table.specs.Rows.{Ascend, are_below}
use Rattle.zb_table.proofs.Ascending.{ascend_more, finds_own, not_below}
use Rattle.zb_pairs.proofs.FoundLemmas.{ascend_kept, filter_all}
use Rattle.zb_views.specs.declared.timer.Timer.{Timer}
use Rattle.zb_views.specs.Timers.{timer_of, timer_told, ends_timer, timers, timers_on}
use Rattle.zb_views.specs.Standing.{begun_by}
use Rattle.zb_views.proofs.TimerLaws.{timers_left, timers_more}
use Rattle.zb_views.specs.View.{next_key}
use Rattle.zb_tokens.specs.Board.{Board}
use Rattle.zb_tokens.proofs.GameLaws.{both_left}
use Rattle.zb_rules.specs.Shown.{board_of}
use Rattle.zb_rules.specs.Applies.{is_fresh, applies, all_apply}
use Rattle.zb_rules.specs.TimerEvents.{has_timer}
use Rattle.zb_rules.specs.Behind.{timers_canceled_on}
use Rattle.zb_rules.proofs.AppliedLaws.{Advances}
use Rattle.zb_rules.proofs.KeysLaws.{fresh_is, next_key_more, first_named, fresh_below}
use Rattle.zb_rules.proofs.OwnLaws.{silent_applies, board_after}

-- the timers of a log of partition p: their keys ascend, and the partition draws none of them again (Zeebe, timers)
pub record HasSoundTimers (p : ℕ) (es : List Event) : Type 0 where
  pub ascend : Ascend (λ (t : Timer). t.key) 0 (timers es)
  pub below : All (λ (t : Timer). t.key < next_key p es) (timers es)

abbrev key_in : Timer → ℕ
key_in t = t.key

-- keys that lie below one
all_below : (high : ℕ) (ts : List Timer) → All (λ (t : Timer). t.key < high) ts → are_below key_in high ts ≡ true
all_below high [] all = refl
all_below high (t ∷ ts) all =
    let here = All-head (λ (x : Timer). x.key < high) t ts all in
    let test : (are_below key_in high (t ∷ ts) ≡ are_below key_in high ts) = (let less : t.key < high = here in grind (arith, nat_tests, less)) in
    test ∙ all_below high ts (All-tail (λ (x : Timer). x.key < high) t ts all)

module _ (p : ℕ) (before : List Event) (b : Board) (e : Event) (after : Board) (h : Advances p before b e after) (s : HasSoundTimers p before) where
  abbrev Below : Timer → Type 0
  Below t = t.key < next_key p (before ++ e ∷ [])

  below_still : All Below (timers before)
  below_still = All-weaker (λ (t : Timer). t.key < next_key p before) Below (λ t less. omega (arith, less, next_key_more p before e)) (timers before) s.below

  left_below : All Below (timers_left e (timers before))
  left_below = All-filter (λ (t : Timer). not (ends_timer t.key e)) Below (timers before) below_still

  -- an event that makes no timer
  left_sound : timer_told e ≡ None → HasSoundTimers p (before ++ e ∷ [])
  left_sound none =
      let now : timers (before ++ e ∷ []) ≡ timers_left e (timers before) = timers_more before e ∙ (ap (λ (o : Option Timer). timers_left e (timers before) ++ begun_by o) none ∙ append-nil (timers_left e (timers before))) in
      record {
        ascend = subst (Ascend key_in 0) (sym now) (ascend_kept key_in (λ t. not (ends_timer t.key e)) 0 (timers before) s.ascend);
        below = subst (All Below) (sym now) left_below;
      }

-- one that makes one
made_sound : (p : ℕ) (before : List Event) (b : Board) (c : TimerCreated) (after : Board) → Advances p before b (events.TimerCreated c) after → HasSoundTimers p before → HasSoundTimers p (before ++ events.TimerCreated c ∷ [])
made_sound p before b c after h s =
    let e = events.TimerCreated c in
    let fresh : IsTrue (is_fresh p before c.key) = both_left (is_fresh p before c.key) _ h.own in
    let its : c.key ≡ next_key p before = (fresh_is p before c.key fresh).1 in
    let now : timers (before ++ e ∷ []) ≡ timers before ++ timer_of c ∷ [] = timers_more before e ∙ ap (λ (l : List Timer). l ++ timer_of c ∷ []) (filter_all (timers before)) in
    let under : are_below key_in c.key (timers before) ≡ true = all_below c.key (timers before) (subst (λ (k : ℕ). All (λ (t : Timer). t.key < k) (timers before)) (sym its) s.below) in
    record {
      ascend = subst (Ascend key_in 0) (sym now) (ascend_more key_in 0 (timers before) (timer_of c) (omega arith) s.ascend under);
      below = subst (All (λ (t : Timer). t.key < next_key p (before ++ e ∷ []))) (sym now)
          (All-push (λ (t : Timer). t.key < next_key p (before ++ e ∷ [])) (timers before) (timer_of c) (below_still p before b e after h s) (fresh_below p before e c.key fresh (first_named p c.key (c.cell ∷ []))));
    }

-- an event that applies keeps the timers sound
pub timers_sound_on : (p : ℕ) (before : List Event) (b : Board) (e : Event) (after : Board) → Advances p before b e after → HasSoundTimers p before → HasSoundTimers p (before ++ e ∷ [])
timers_sound_on p before b (events.TimerCreated c) after h s = made_sound p before b c after h s
timers_sound_on p before b e after h s = left_sound p before b e after h s refl

-- and they are where there are none
pub timers_sound_first : (p : ℕ) → HasSoundTimers p []
timers_sound_first p = record { ascend = tt; below = All-nil (λ (t : Timer). t.key < next_key p []) }

-- a timer is found still where another one is canceled
found_still : (key other : ℕ) (ts : List Timer) → (other == key) ≡ false → find (λ (t : Timer). t.key == other) (filter (λ t. not (t.key == key)) ts) ≡ find (λ (t : Timer). t.key == other) ts
found_still key other [] apart = refl
found_still key other (t ∷ ts) apart = by_tests (t.key == key) (t.key == other) refl refl (found_still key other ts apart)
  where
    by_tests : (u v : Bool) → (t.key == key) ≡ u → (t.key == other) ≡ v → find (λ (x : Timer). x.key == other) (filter (λ x. not (x.key == key)) ts) ≡ find (λ (x : Timer). x.key == other) ts
        → find (λ (x : Timer). x.key == other) (cond (not u) (t ∷ filter (λ x. not (x.key == key)) ts) (filter (λ x. not (x.key == key)) ts)) ≡ cond v (Some t) (find (λ (x : Timer). x.key == other) ts)
    by_tests true true at same later = absurd (let both : (other == key) ≡ true = grind (arith, nat_tests) in cc)
    by_tests true false at same later = later
    by_tests false true at same later = rw same refl
    by_tests false false at same later = rw same later

-- the events that cancel these timers
abbrev pub cancels : List Timer → List Event
cancels ts = map (λ t. events.TimerCanceled t.key) ts

still_there : (before : List Event) (key other : ℕ) → (other == key) ≡ false → IsTrue (has_timer other before) → IsTrue (has_timer other (before ++ events.TimerCanceled key ∷ []))
still_there before key other apart there =
    let now : timers (before ++ events.TimerCanceled key ∷ []) ≡ filter (λ (t : Timer). not (t.key == key)) (timers before) = timers_more before (events.TimerCanceled key) ∙ append-nil (filter (λ (t : Timer). not (t.key == key)) (timers before)) in
    ap is_some (ap (find (λ (t : Timer). t.key == other)) now ∙ found_still key other (timers before) apart) ∙ there

-- timers that are there are canceled one after the other, which leaves the board
pub cancels_apply : (p : ℕ) (b : Board) (low : ℕ) (ts : List Timer) (before : List Event) → board_of before ≡ Some b → Ascend key_in low ts → All (λ (t : Timer). IsTrue (has_timer t.key before)) ts
    → IsTrue (all_apply p before (cancels ts)) × (board_of (before ++ cancels ts) ≡ Some b)
cancels_apply p b low [] before is up there = (refl, ap board_of (append-nil before) ∙ is)
cancels_apply p b low (t ∷ ts) before is up there =
    let e = events.TimerCanceled t.key in
    let here = All-head (λ (x : Timer). IsTrue (has_timer x.key before)) t ts there in
    let first : IsTrue (applies p before e) = silent_applies p before b e is here refl in
    let behind = board_after before b b e is refl in
    let rest = cancels_apply p b (t.key + 1) ts (before ++ e ∷ []) behind up.1 (λ k d within.
    let above = above_low (t.key + 1) ts k d up.1 within in
    let apart : ((get_or ts k d).key == t.key) ≡ false = grind (arith, nat_tests, above) in
    still_there before t.key (get_or ts k d).key apart (All-tail (λ (x : Timer). IsTrue (has_timer x.key before)) t ts there k d within)) in
    (rw first rest.0, ap board_of (sym (append_assoc before (e ∷ []) (cancels ts))) ∙ rest.1)
  where
    above_low : (bound : ℕ) (xs : List Timer) (k : ℕ) (d : Timer) → Ascend key_in bound xs → k < length xs → bound ≤ (get_or xs k d).key
    above_low bound xs k d up within = not_below key_in bound xs k d up within

all_there : (es : List Event) → Ascend key_in 0 (timers es) → All (λ (t : Timer). IsTrue (has_timer t.key es)) (timers es)
all_there es up = λ k d within. ap is_some (finds_own key_in 0 (timers es) k d within up)

-- the timers of a cell are canceled, which leaves the board
pub canceled_on_apply : (p : ℕ) (es : List Event) (b : Board) (cell : ℕ) → board_of es ≡ Some b → HasSoundTimers p es
    → IsTrue (all_apply p es (timers_canceled_on cell es)) × (board_of (es ++ timers_canceled_on cell es) ≡ Some b)
canceled_on_apply p es b cell is s = cancels_apply p b 0 (timers_on cell es) es is (ascend_kept key_in (λ t. t.cell == cell) 0 (timers es) s.ascend)
    (All-filter (λ (t : Timer). t.cell == cell) (λ (t : Timer). IsTrue (has_timer t.key es)) (timers es) (all_there es s.ascend))

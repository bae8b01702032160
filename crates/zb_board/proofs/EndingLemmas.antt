-- Cells that end as they are called off stay among the ready ones as the board changes.
use Rattle.std.proofs.Common.{◌≡◌, ℕ, zero, suc, ◌+◌, ◌<◌, ◌≤◌, ◌==◌, nat_lt, List, [], ◌∷◌, ◌++◌, length, get_or, slice_set, remove, All, Bool, true, false, ◌&&◌, ◌||◌, not, cond, is_some, Option, Some, None, refl, sym, ap, subst, ◌∙◌, arith, ◌⊎◌, inl, inr}
use Rattle.std.specs.BTreeSet.{BTreeSet}
use Rattle.std.specs.List.{find}
use Rattle.std.specs.Option.{option_map_or, option_or}
use Rattle.std.proofs.lemmas.Bool.{and_parts}
use Rattle.std.proofs.lemmas.Bool.Decides.{nat_tests}
use Rattle.std.proofs.lemmas.List.Folds.{find-append}
use Rattle.zb_table.specs.Rows.{Ascend, are_below}
use Rattle.zb_table.proofs.Ascending.{finds_own}
use Rattle.zb_places.proofs.CountLemmas.{passing_within}
use Rattle.zb_pairs.specs.Pairs.{keys_under}
use Rattle.zb_pairs.proofs.UnderLemmas.{under_any}
use Rattle.zb_tokens.specs.declared.board.Cell.{Cell}
use Rattle.zb_tokens.specs.declared.board.Phase.{Phase}
use Rattle.zb_tokens.specs.declared.board.Phase.TheVariants as phases
use Rattle.zb_tokens.specs.Board.{Board, cell_at, has_child, up_from}
use Rattle.zb_tokens.specs.Doom.{calls_off, is_doomed}
use Rattle.zb_tokens.specs.Forced.{ends_in}
use Rattle.zb_tokens.proofs.FoundLaws.{found_passes}
use Rattle.zb_board.specs.Below.{HasBelow}
use Rattle.zb_board.specs.Indexed.{AreChildren, is_ending, is_kept}
use Rattle.zb_board.proofs.DoomLemmas.{IsNewer, climbs, climbed, climbs_less, none_climbs, scope_older}
use Rattle.zb_board.proofs.TallyLemmas.{found_without, none_with}

-- a cell that ends as it is called off is among the ready ones
abbrev pub IsEnding : Board → List ℕ → Cell → Type 0
IsEnding b ready c = is_ending b c ≡ true → is_kept ready c.key ≡ true

-- either of two tests passes where the second does
pub or_true : (t : Bool) → (t || true) ≡ true
or_true true = refl
or_true false = refl

-- a cell put in a phase calls off what is in it where the phase says so, or where it did before
pub calls_by : (off now ending : Bool) → (off || ending) ≡ true → ((now || ending) || off) ≡ true
calls_by off true ending is = refl
calls_by true false true is = refl
calls_by true false false is = refl
calls_by false false ending is = by_ending ending is
  where
    by_ending : (e : Bool) → e ≡ true → (e || false) ≡ true
    by_ending true is = refl
    by_ending false is = absurd (cc)

module _ (b after : Board) where
  ends_on : (c : Cell) (phase : Phase) → (has_child b c.key ≡ true → has_child after c.key ≡ true) → ends_in after c phase ≡ true → ends_in b c phase ≡ true
  ends_on c phases.Activating full is = refl
  ends_on c phases.Active full is = refl
  ends_on c phases.Completing full is = refl
  ends_on c phases.Leaving full is = is
  ends_on c phases.Terminating full is = by_child (has_child b c.key) (has_child after c.key) full is
    where
      by_child : (s t : Bool) → (s ≡ true → t ≡ true) → not t ≡ true → not s ≡ true
      by_child true t full is = absurd (let it = full refl in cc)
      by_child false t full is = refl

  -- one that ends there ended here, where it was called off, and what was in it is there
  pub ended_on : (ready more : List ℕ) (c : Cell) → (is_doomed after c ≡ true → is_doomed b c ≡ true) → (has_child b c.key ≡ true → has_child after c.key ≡ true) → (is_kept ready c.key ≡ true → is_kept more c.key ≡ true)
      → IsEnding b ready c → IsEnding after more c
  ended_on ready more c doomed full still was is =
      let r = and_parts (is_doomed after c) (ends_in after c c.phase) is in
      let one = doomed r.0 in
      let other = ends_on c c.phase full r.1 in
      still (was (rw (one, other) refl))

  -- where the cells are the same, all do
  same_up : ((k : ℕ) → cell_at after k ≡ cell_at b k) → (fuel : List Cell) (k : ℕ) → up_from fuel after k ≡ up_from fuel b k
  same_up same [] k = refl
  same_up same (x ∷ fuel) k = by_found (same_up same fuel) (cell_at b k) refl
    where
      by_found : ((up : ℕ) → up_from fuel after up ≡ up_from fuel b up) → (found : Option Cell) → cell_at b k ≡ found → up_from (x ∷ fuel) after k ≡ up_from (x ∷ fuel) b k
      by_found later None none = let there = same k ∙ none in rw (there, none) refl
      by_found later (Some c) at = let there = same k ∙ at in rw (there, at) (ap (λ (cs : List Cell). c ∷ cs) (later c.scope))

  pub ending_beside : (ready more : List ℕ) → after.cells ≡ b.cells → ((k : ℕ) → cell_at after k ≡ cell_at b k) → ((k : ℕ) → has_child b k ≡ true → has_child after k ≡ true) → ((k : ℕ) → is_kept ready k ≡ true → is_kept more k ≡ true)
      → All (IsEnding b ready) b.cells → All (IsEnding after more) b.cells
  ending_beside ready more cells same full still was = λ i d within.
      let c = get_or b.cells i d in
      let doomed : is_doomed after c ≡ is_doomed b c = ap (λ (fuel : List Cell). is_some (find calls_off (up_from fuel after c.scope))) cells ∙ ap (λ (cs : List Cell). is_some (find calls_off cs)) (same_up same b.cells c.scope) in
      ended_on ready more c (λ is. sym doomed ∙ is) (full c.key) (still c.key) (was i d within)

-- of two tests of which the second never passes, the first does
first_of_two : (s t : Bool) → t ≡ false → (s || t) ≡ true → s ≡ true
first_of_two true t none is = refl
first_of_two false t none is = absurd (cc)

-- a key is among those that ascend to a bound, and so it is below that
pub below_at : (high : ℕ) (cells : List Cell) (i : ℕ) (d : Cell) → are_below (λ (x : Cell). x.key) high cells ≡ true → i < length cells → (get_or cells i d).key < high
below_at high [] i d below within = absurd (omega (arith, within))
below_at high (c ∷ cells) zero d below within = grind (arith, nat_tests, (and_parts (nat_lt c.key high) (are_below (λ (x : Cell). x.key) high cells) below).0)
below_at high (c ∷ cells) (suc i) d below within = below_at high cells i d (and_parts (nat_lt c.key high) (are_below (λ (x : Cell). x.key) high cells) below).1 (omega (arith, within))

-- a cell more
pub ending_more : (b : Board) (c : Cell) (ready more : List ℕ) → All IsNewer b.cells → are_below (λ (x : Cell). x.key) c.key b.cells ≡ true → ((k : ℕ) → has_child b k ≡ true → has_child (record b { cells = b.cells ++ c ∷ [] }) k ≡ true)
    → ((k : ℕ) → is_kept ready k ≡ true → is_kept more k ≡ true) → All (IsEnding b ready) b.cells → All (IsEnding (record b { cells = b.cells ++ c ∷ [] }) more) b.cells
ending_more b c ready more newer below full still was = λ i d within.
    let x = get_or b.cells i d in
    let own : x.key < c.key = below_at c.key b.cells i d below within in
    let older : x.scope < x.key = newer i d within in
    ended_on b after ready more x (doomed x (omega (arith, own, older))) (full x.key) (still x.key) (was i d within)
  where
    after : Board
    after = record b { cells = b.cells ++ c ∷ [] }

    same : (k : ℕ) (e : Cell) → k < c.key → cell_at after k ≡ Some e → (a : Cell) × (cell_at b k ≡ Some a) × (a.scope ≡ e.scope) × (e.scope < c.key) × (calls_off e ≡ true → (calls_off a || false) ≡ true)
    same k e lower at =
        let apart : (c.key == k) ≡ false = grind (arith, nat_tests, lower) in
        let there : cell_at b k ≡ Some e = by_found (cell_at b k) (sym (find-append (λ (y : Cell). y.key == k) b.cells (c ∷ [])) ∙ at) apart in
        let older = scope_older b newer k e there in
        (e, there, refl, omega (arith, older, lower), λ is. rw is refl)
      where
        by_found : (found : Option Cell) → option_or found (find (λ (y : Cell). y.key == k) (c ∷ [])) ≡ Some e → (c.key == k) ≡ false → found ≡ Some e
        by_found (Some a) is apart = is
        by_found None is apart = absurd (let none : find (λ (y : Cell). y.key == k) (c ∷ []) ≡ None = rw apart refl in let never = sym none ∙ is in cc)

    doomed : (x : Cell) → x.scope < c.key → is_doomed after x ≡ true → is_doomed b x ≡ true
    doomed x lower is =
        let all : List Cell = b.cells ++ c ∷ [] in
        let either = climbed b after calls_off (λ _. false) calls_off c.key same all all x.scope (omega arith) lower is in
        let one = first_of_two (climbs calls_off b all x.scope) (climbs (λ _. false) b all x.scope) (none_climbs b all x.scope) either in
        climbs_less b newer calls_off all b.cells x.scope (passing_within (λ (y : Cell). nat_lt y.key (x.scope + 1)) b.cells) one

-- a cell that is found where one was changed is that, or was found before
record IsOneOf (e a c d : Cell) : Type 0 where
  scope : a.scope ≡ e.scope
  calls : (off : Bool) → (calls_off d ≡ true → (calls_off c || off) ≡ true) → calls_off e ≡ true → (calls_off a || (off && (a.key == c.key))) ≡ true

module _ (c d : Cell) (key : d.key ≡ c.key) (scope : d.scope ≡ c.scope) where
  itself : IsOneOf d c c d
  itself = record {
    scope = sym scope;
    calls = λ off met is. let own : (c.key == c.key) ≡ true = grind (arith, nat_tests) in rw own (by_off off (calls_off c) (met is));
  }
    where
      by_off : (off t : Bool) → (t || off) ≡ true → (t || (off && true)) ≡ true
      by_off true t is = is
      by_off false t is = is

  another : (e : Cell) → IsOneOf e e c d
  another e = record { scope = refl; calls = λ off met is. rw is refl }

  found_in_set : (cells : List Cell) (i k : ℕ) (e : Cell) → c ≡ get_or cells i c → find (λ x. x.key == k) (slice_set cells i d) ≡ Some e → (a : Cell) × (find (λ x. x.key == k) cells ≡ Some a) × IsOneOf e a c d
  found_in_set [] i k e at is = absurd (cc)
  found_in_set (x ∷ cells) zero k e at is = by_key (c.key == k) refl (let same = ap (λ (n : ℕ). n == k) key in rw (← same) is)
    where
      by_key : (t : Bool) → (c.key == k) ≡ t → cond t (Some d) (find (λ y. y.key == k) cells) ≡ Some e → (a : Cell) × (cond (x.key == k) (Some x) (find (λ y. y.key == k) cells) ≡ Some a) × IsOneOf e a c d
      by_key true own is =
          let here : cond (x.key == k) (Some x) (find (λ y. y.key == k) cells) ≡ Some c = rw (← at, own) refl in
          (c, here, subst (λ (y : Cell). IsOneOf y c c d) (some_same is) itself)
        where
          some_same : Some d ≡ Some e → d ≡ e
          some_same is = cc
      by_key false other is =
          let here : cond (x.key == k) (Some x) (find (λ y. y.key == k) cells) ≡ Some e = rw (← at, other) is in
          (e, here, another e)
  found_in_set (x ∷ cells) (suc i) k e at is = by_key (x.key == k) is (found_in_set cells i k e at)
    where
      by_key : (t : Bool) → cond t (Some x) (find (λ y. y.key == k) (slice_set cells i d)) ≡ Some e → (find (λ y. y.key == k) (slice_set cells i d) ≡ Some e → (a : Cell) × (find (λ y. y.key == k) cells ≡ Some a) × IsOneOf e a c d)
          → (a : Cell) × (cond t (Some x) (find (λ y. y.key == k) cells) ≡ Some a) × IsOneOf e a c d
      by_key true is later = (e, is, another e)
      by_key false is later = later is

-- a cell changed, which begins to call off what is in it only where the cells below it are among the ready ones
pub ending_set : (b : Board) (i : ℕ) (c d : Cell) (off : Bool) (ready more : List ℕ) → All IsNewer b.cells → c ≡ get_or b.cells i c → d.key ≡ c.key → d.scope ≡ c.scope → (calls_off d ≡ true → (calls_off c || off) ≡ true)
    → (off ≡ true → All (λ (x : Cell). climbs (λ y. y.key == c.key) b b.cells x.scope ≡ true → is_kept more x.key ≡ true) b.cells)
    → ((k : ℕ) → has_child b k ≡ true → has_child (record b { cells = slice_set b.cells i d }) k ≡ true) → ((k : ℕ) → is_kept ready k ≡ true → is_kept more k ≡ true)
    → All (IsEnding b ready) b.cells → All (IsEnding (record b { cells = slice_set b.cells i d }) more) b.cells
ending_set b i c d off ready more newer at key scope met below full still was = λ j e within ends.
    let x = get_or b.cells j e in
    let older : x.scope < x.key = newer j e within in
    let r = and_parts (is_doomed after x) (ends_in after x x.phase) ends in
    let either = climbed b after calls_off (λ y. off && (y.key == c.key)) calls_off x.key (same x.key) (slice_set b.cells i d) b.cells x.scope (length_set b.cells i) older r.0 in
    by_two x off (climbs calls_off b b.cells x.scope) refl refl either
    (λ doomed. ended_on b after ready more x (λ _. doomed) (full x.key) (still x.key) (was j e within) ends)
    (λ is lower. below is j e within lower)
  where
    after : Board
    after = record b { cells = slice_set b.cells i d }

    length_set : (cells : List Cell) (j : ℕ) → length (slice_set cells j d) ≤ length cells
    length_set [] j = omega arith
    length_set (x ∷ cells) zero = omega arith
    length_set (x ∷ cells) (suc j) = (let later = length_set cells j in omega (arith, later))

    same : (bound k : ℕ) (e : Cell) → k < bound → cell_at after k ≡ Some e → (a : Cell) × (cell_at b k ≡ Some a) × (a.scope ≡ e.scope) × (e.scope < bound) × (calls_off e ≡ true → (calls_off a || (off && (a.key == c.key))) ≡ true)
    same bound k e lower there =
        let r = found_in_set c d key scope b.cells i k e at there in
        let older = scope_older b newer k r.0 r.1 in
        let around = r.2.scope in
        (r.0, r.1, around, omega (arith, older, lower, around), r.2.calls off met)

    by_two : (x : Cell) (t s : Bool) → off ≡ t → climbs calls_off b b.cells x.scope ≡ s → (s || climbs (λ y. t && (y.key == c.key)) b b.cells x.scope) ≡ true
        → (climbs calls_off b b.cells x.scope ≡ true → is_kept more x.key ≡ true) → (off ≡ true → climbs (λ y. y.key == c.key) b b.cells x.scope ≡ true → is_kept more x.key ≡ true) → is_kept more x.key ≡ true
    by_two x t true is first either doomed lower = doomed first
    by_two x true false is first either doomed lower = lower is either
    by_two x false false is first either doomed lower = absurd (let never = none_climbs b b.cells x.scope in cc)

-- a cell fewer, whose scope is among the ready ones where nothing is left in it
pub ending_away : (b : Board) (i : ℕ) (c : Cell) (ready more : List ℕ) → All IsNewer b.cells → i < length b.cells → c ≡ get_or b.cells i c → All (λ (x : Cell). (x.key == c.key) ≡ false) (remove b.cells i)
    → ((k : ℕ) → (c.scope == k) ≡ false → has_child b k ≡ true → has_child (record b { cells = remove b.cells i }) k ≡ true)
    → ((k : ℕ) → (k == c.key) ≡ false → is_kept ready k ≡ true → is_kept more k ≡ true) → (has_child (record b { cells = remove b.cells i }) c.scope ≡ false → (c.scope == c.key) ≡ false → is_kept more c.scope ≡ true)
    → All (IsEnding b ready) (remove b.cells i) → All (IsEnding (record b { cells = remove b.cells i }) more) (remove b.cells i)
ending_away b i c ready more newer within at apart full still woken was = λ j e there ends.
    let x = get_or (remove b.cells i) j e in
    let other : (x.key == c.key) ≡ false = apart j e there in
    by_scope x (c.scope == x.key) (has_child after c.scope) refl refl other ends (was j e there)
  where
    after : Board
    after = record b { cells = remove b.cells i }

    length_less : (cells : List Cell) (j : ℕ) → j < length cells → length (remove cells j) ≤ length cells
    length_less [] j within = absurd (omega (arith, within))
    length_less (x ∷ cells) zero within = omega arith
    length_less (x ∷ cells) (suc j) within = (let later = length_less cells j (omega (arith, within)) in omega (arith, later))

    before : (k : ℕ) (e : Cell) → cell_at after k ≡ Some e → cell_at b k ≡ Some e
    before k e found = by_key (c.key == k) refl
      where
        by_key : (t : Bool) → (c.key == k) ≡ t → cell_at b k ≡ Some e
        by_key true is =
            absurd (let own : c.key ≡ k = grind (arith, nat_tests, is) in
            let none : cell_at after k ≡ None = subst (λ (n : ℕ). find (λ (x : Cell). x.key == n) (remove b.cells i) ≡ None) own (none_with c.key (remove b.cells i) apart) in
            let never = sym none ∙ found in cc)
        by_key false is = sym (found_without (λ (x : Cell). x.key == k) b.cells i c within at is) ∙ found

    same : (bound k : ℕ) (e : Cell) → k < bound → cell_at after k ≡ Some e → (a : Cell) × (cell_at b k ≡ Some a) × (a.scope ≡ e.scope) × (e.scope < bound) × (calls_off e ≡ true → (calls_off a || false) ≡ true)
    same bound k e lower found =
        let there = before k e found in
        let older = scope_older b newer k e there in
        (e, there, refl, omega (arith, older, lower), λ is. rw is refl)

    doomed : (x : Cell) → is_doomed after x ≡ true → is_doomed b x ≡ true
    doomed x is =
        let either = climbed b after calls_off (λ _. false) calls_off (x.scope + 1) (same (x.scope + 1)) (remove b.cells i) b.cells x.scope (length_less b.cells i within) (omega arith) is in
        first_of_two (climbs calls_off b b.cells x.scope) (climbs (λ _. false) b b.cells x.scope) (none_climbs b b.cells x.scope) either

    by_scope : (x : Cell) (t s : Bool) → (c.scope == x.key) ≡ t → has_child after c.scope ≡ s → (x.key == c.key) ≡ false → is_ending after x ≡ true → IsEnding b ready x → is_kept more x.key ≡ true
    by_scope x true true is some other ends was =
        let own : c.scope ≡ x.key = grind (arith, nat_tests, is) in
        let child : has_child after x.key ≡ true = subst (λ (n : ℕ). has_child after n ≡ true) own some in
        ended_on b after ready more x (doomed x) (λ _. child) (still x.key other) was ends
    by_scope x true false is none other ends was =
        let own : c.scope ≡ x.key = grind (arith, nat_tests, is) in
        subst (λ (n : ℕ). is_kept more n ≡ true) own (woken none (subst (λ (n : ℕ). (n == c.key) ≡ false) (sym own) other))
    by_scope x false s is some other ends was = ended_on b after ready more x (doomed x) (full x.key is) (still x.key other) was ends

-- where those below a scope are among the ready ones, each cell above which its cell is one is
module _ (b : Board) (children : BTreeSet (ℕ × ℕ)) (key : ℕ) (more : List ℕ) (up : Ascend (λ c. c.key) 0 b.cells) (newer : All IsNewer b.cells) (right : AreChildren b.cells children) (has : HasBelow children.keys key more) where
  under_scope : (k : ℕ) (c : Cell) → cell_at b k ≡ Some c → is_kept (keys_under c.scope children.keys) k ≡ true
  under_scope k c at =
      let own : (c.scope == c.scope) ≡ true = grind (arith, nat_tests) in
      under_any c.scope k children.keys ∙ (right c.scope k ∙ rw (at, own) refl)

  in_below : (k : ℕ) (c : Cell) → cell_at b k ≡ Some c → (c.scope ≡ key) ⊎ (is_kept has.below c.scope ≡ true) → is_kept has.below k ≡ true
  in_below k c at (inl is) =
      let older = scope_older b newer k c at in
      let under = under_scope k c at in
      has.first k (omega (arith, older, is)) (rw (← is) under)
  in_below k c at (inr is) = has.next c.scope k (scope_older b newer k c at) is (under_scope k c at)

  reached : (fuel : List Cell) (k : ℕ) → climbs (λ y. y.key == key) b fuel k ≡ true → (k ≡ key) ⊎ (is_kept has.below k ≡ true)
  reached [] k is = absurd (cc)
  reached (x ∷ fuel) k is = by_found (reached fuel) (cell_at b k) refl is
    where
      by_test : ((up : ℕ) → climbs (λ y. y.key == key) b fuel up ≡ true → (up ≡ key) ⊎ (is_kept has.below up ≡ true)) → (t : Bool) (c : Cell) → (c.key == key) ≡ t → cell_at b k ≡ Some c → is_some {T = Cell} (cond t (Some c) (find (λ y. y.key == key) (up_from fuel b c.scope))) ≡ true → (k ≡ key) ⊎ (is_kept has.below k ≡ true)
      by_test later true c own at is =
          let same = found_passes (λ (y : Cell). y.key == k) b.cells c at in
          inl (grind (arith, nat_tests, own, same))
      by_test later false c other at is = inr (in_below k c at (later c.scope is))

      by_found : ((up : ℕ) → climbs (λ y. y.key == key) b fuel up ≡ true → (up ≡ key) ⊎ (is_kept has.below up ≡ true)) → (found : Option Cell) → cell_at b k ≡ found → climbs (λ y. y.key == key) b (x ∷ fuel) k ≡ true → (k ≡ key) ⊎ (is_kept has.below k ≡ true)
      by_found later None none is = absurd (let never : climbs (λ y. y.key == key) b (x ∷ fuel) k ≡ false = rw none refl in cc)
      by_found later (Some c) at is = by_test later (c.key == key) c refl at (sym (ap (λ (o : Option Cell). is_some (find (λ y. y.key == key) (option_map_or (λ x. x ∷ up_from fuel b x.scope) o []))) at) ∙ is)

  pub below_met : All (λ (x : Cell). climbs (λ y. y.key == key) b b.cells x.scope ≡ true → is_kept more x.key ≡ true) b.cells
  below_met i d within is =
      let x = get_or b.cells i d in
      has.kept x.key (in_below x.key x (finds_own (λ (y : Cell). y.key) 0 b.cells i d within up) (reached b.cells x.scope is))

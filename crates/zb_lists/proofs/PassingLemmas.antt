-- The row that is due first of those that pass is that of the first pair whose row does.
use Rattle.std.proofs.Common.{◌≡◌, ℕ, ◌+◌, ◌<◌, ◌==◌, nat_le, List, [], ◌∷◌, length, filter, Bool, true, false, ◌&&◌, ◌||◌, cond, if◌then◌else◌, Option, Some, None, option_map, refl, sym, ap, subst, ◌∙◌, arith}
use Rattle.std.specs.Ordering.{is_eq}
use Rattle.std.specs.List.{find}
use Rattle.std.specs.Option.{option_map_or}
use Rattle.std.specs.BTreeSet.{BTreeSet}
use Rattle.std.proofs.lemmas.Bool.Decides.{nat_tests}
use Rattle.zb_table.specs.Rows.{Ascend}
use Rattle.zb_table.specs.Earliest.{is_earlier, place_in_time, first_due}
use Rattle.zb_pairs.specs.Pairs.{has_pair, is_number}
use Rattle.zb_lists.specs.Moments.{due_pair, is_among, is_waited_for, is_passing, IsTimeOrdered}
use Rattle.zb_pairs.proofs.FoundLemmas.{none_kept, ascend_kept}
use Rattle.zb_pairs.proofs.PairLemmas.{parts_of, same_place}
use Rattle.zb_lists.proofs.OrderLemmas.{pair_cmp, none_before}
use Rattle.zb_lists.proofs.FirstLemmas.{due_none, due_first}

-- one of two
either : {C : Type 0} (s t : Bool) → (s || t) ≡ true → (s ≡ true → C) → (t ≡ true → C) → C
either true t some here there = here refl
either false t some here there = there some

or_left : (s t : Bool) → s ≡ true → (s || t) ≡ true
or_left s t is = rw is refl

or_right : (s t : Bool) → t ≡ true → (s || t) ≡ true
or_right true t is = refl
or_right false t is = is

module _ (passes : ℕ → ℕ → Bool) (now : ℕ) where
  -- of the pairs that are kept and pass it is the first, and its moment has come; or no moment of theirs has
  abbrev pub IsFirst : (ℕ → ℕ → Bool) → Option (ℕ × ℕ) → Type 0
  IsFirst has None = (n k : ℕ) → has n k ≡ true → passes n k ≡ true → nat_le n now ≡ false
  IsFirst has (Some f) = (has f.0 f.1 ≡ true) × (passes f.0 f.1 ≡ true) × (nat_le f.0 now ≡ true) × ((n k : ℕ) → has n k ≡ true → passes n k ≡ true → is_earlier (n, k) f ≡ false)

  -- the first that passes
  abbrev pub found : List (ℕ × ℕ) → Option (ℕ × ℕ)
  found ps = find (λ p. passes p.0 p.1) ps

  -- of pairs in order
  pub first_in_order : (ps : List (ℕ × ℕ)) → IsTimeOrdered ps → IsFirst (is_among ps) (due_pair now (found ps))
  first_in_order [] order = λ n k has is. absurd (cc)
  first_in_order (p ∷ ps) order = by_test (passes p.0 p.1) refl (first_in_order ps order.1)
    where
      itself : is_eq (pair_cmp (p.0, p.1) p) ≡ true
      itself = same_place p.0 p.1 p.0 p.1 ∙ grind (arith, nat_tests)

      by_moment : (u : Bool) → nat_le p.0 now ≡ u → passes p.0 p.1 ≡ true → IsFirst (is_among (p ∷ ps)) (if u then Some p else None)
      by_moment true come is = (or_left (is_eq (pair_cmp (p.0, p.1) p)) (is_among ps p.0 p.1) itself, is, come, λ n k has passes. none_before p ps n k order has)
      by_moment false late is = λ n k has passes. let after = none_before p ps n k order has in grind (arith, nat_tests, after, late)

      in_rest : (n k : ℕ) → passes p.0 p.1 ≡ false → is_among (p ∷ ps) n k ≡ true → passes n k ≡ true → is_among ps n k ≡ true
      in_rest n k isnt has is = by_same (is_eq (pair_cmp (n, k) p)) refl has
        where
          by_same : (t : Bool) → is_eq (pair_cmp (n, k) p) ≡ t → (t || is_among ps n k) ≡ true → is_among ps n k ≡ true
          by_same true same has = absurd (let parts = parts_of n k p same in let its : passes p.0 p.1 ≡ true = subst (λ (a : ℕ). passes a p.1 ≡ true) parts.0 (subst (λ (b : ℕ). passes n b ≡ true) parts.1 is) in cc)
          by_same false other has = has

      more : (o : Option (ℕ × ℕ)) → passes p.0 p.1 ≡ false → IsFirst (is_among ps) o → IsFirst (is_among (p ∷ ps)) o
      more None isnt late = λ n k has is. late n k (in_rest n k isnt has is) is
      more (Some f) isnt first = (or_right (is_eq (pair_cmp (f.0, f.1) p)) (is_among ps f.0 f.1) first.0, first.1, first.2, λ n k has is. first.3 n k (in_rest n k isnt has is) is)

      by_test : (t : Bool) → passes p.0 p.1 ≡ t → IsFirst (is_among ps) (due_pair now (found ps)) → IsFirst (is_among (p ∷ ps)) (due_pair now (cond t (Some p) (found ps)))
      by_test true is later = by_moment (nat_le p.0 now) refl is
      by_test false isnt later = more (due_pair now (found ps)) isnt later

  -- where no pair is left
  pub found_none : (to_come ps : List (ℕ × ℕ)) → to_come ≡ [] → found to_come ≡ found ps → None ≡ due_pair now (found ps)
  found_none to_come ps none same = ap (due_pair now) (sym (ap found none) ∙ same)

  module _ (to_come ps : List (ℕ × ℕ)) (p : ℕ × ℕ) (rest : List (ℕ × ℕ)) (steps : to_come ≡ p ∷ rest) (same : found to_come ≡ found ps) (order : IsTimeOrdered to_come) where
    on : found (p ∷ rest) ≡ found ps
    on = ap found (sym steps) ∙ same

    in_order : IsTimeOrdered (p ∷ rest)
    in_order = subst (λ (all : List (ℕ × ℕ)). IsTimeOrdered all) steps order

    -- where the moment of the next pair lies ahead
    pub found_late : nat_le p.0 now ≡ false → None ≡ due_pair now (found ps)
    found_late late = subst (λ (o : Option (ℕ × ℕ)). None ≡ due_pair now o) on (by_come (due_pair now (found (p ∷ rest))) (first_in_order (p ∷ rest) in_order))
      where
        by_come : (o : Option (ℕ × ℕ)) → IsFirst (is_among (p ∷ rest)) o → None ≡ o
        by_come None is = refl
        by_come (Some f) is = absurd (let after = none_before p rest f.0 f.1 in_order is.0 in let ahead : nat_le f.0 now ≡ false = grind (arith, nat_tests, after, late) in let come = is.2 in cc)

    -- where it passes, and its moment has come
    pub found_first : nat_le p.0 now ≡ true → passes p.0 p.1 ≡ true → Some p ≡ due_pair now (found ps)
    found_first come is = subst (λ (o : Option (ℕ × ℕ)). Some p ≡ due_pair now o) on (rw (is, come) refl)

    -- where it doesn't pass
    pub found_behind : passes p.0 p.1 ≡ false → (found rest ≡ found ps) × IsTimeOrdered rest
    found_behind isnt =
        let over : found (p ∷ rest) ≡ found rest = rw isnt refl in
        (sym over ∙ on, in_order.1)

module _ {A : Type 0} (key : A → ℕ) (moment : A → Option ℕ) (q : A → Bool) (now : ℕ) (rows : List A) (up : Ascend key 0 rows) where
  -- no row has a key below the first
  none_from : (k low : ℕ) (rows : List A) → Ascend key low rows → k < low → find (λ r. key r == k) rows ≡ None
  none_from k low [] up below = refl
  none_from k low (r ∷ rows) up below =
      let apart : (key r == k) ≡ false = grind (arith, nat_tests, up.0, below) in
      rw apart (none_from k (key r + 1) rows up.1 (omega (arith, up.0, below)))

  -- a row with a key is found among those that pass where it does
  found_kept : (k low : ℕ) (rows : List A) (r : A) → Ascend key low rows → find (λ x. key x == k) rows ≡ Some r → find (λ x. key x == k) (filter q rows) ≡ cond (q r) (Some r) None
  found_kept k low [] r up at = absurd (cc)
  found_kept k low (x ∷ rows) r up at = by_tests (key x == k) (q x) refl refl at (found_kept k (key x + 1) rows r up.1)
    where
      here : x ≡ r → (t : Bool) → q x ≡ t → (key x == k) ≡ true → find (λ y. key y == k) (cond t (x ∷ filter q rows) (filter q rows)) ≡ cond (q r) (Some r) None
      here same true passes is = rw (is, ap q (sym same) ∙ passes) (ap (λ (y : A). Some y) same)
      here same false fails is =
          let none = none_from k (key x + 1) rows up.1 (grind (arith, nat_tests, is)) in
          rw (none_kept (λ y. key y == k) q rows none, ap q (sym same) ∙ fails) refl

      by_tests : (s t : Bool) → (key x == k) ≡ s → q x ≡ t → ◌≡◌ {A = Option A} (cond s (Some x) (find (λ y. key y == k) rows)) (Some r)
          → (find (λ y. key y == k) rows ≡ Some r → find (λ y. key y == k) (filter q rows) ≡ cond (q r) (Some r) None)
          → find (λ y. key y == k) (cond t (x ∷ filter q rows) (filter q rows)) ≡ cond (q r) (Some r) None
      by_tests true t is passes at later = here (cc) t passes is
      by_tests false true isnt passes at later = rw isnt (later at)
      by_tests false false isnt fails at later = later at

  -- and only there
  kept_passes : (k : ℕ) (r : A) → find (λ x. key x == k) (filter q rows) ≡ Some r → (find (λ x. key x == k) rows ≡ Some r) × (q r ≡ true)
  kept_passes k r at = by_found (find (λ x. key x == k) rows) refl
    where
      by_test : (x : A) (t : Bool) → q x ≡ t → find (λ y. key y == k) rows ≡ Some x → ◌≡◌ {A = Option A} (cond t (Some x) None) (Some r) → (find (λ y. key y == k) rows ≡ Some r) × (q r ≡ true)
      by_test x true is found same =
          let one : x ≡ r = cc in
          (found ∙ ap (λ (y : A). Some y) one, ap q (sym one) ∙ is)
      by_test x false isnt found same = absurd (cc)

      by_found : (o : Option A) → find (λ x. key x == k) rows ≡ o → (find (λ x. key x == k) rows ≡ Some r) × (q r ≡ true)
      by_found None none = absurd (let nowhere = none_kept (λ x. key x == k) q rows none in cc)
      by_found (Some x) found = by_test x (q x) refl found (sym (found_kept k 0 rows x up found) ∙ at)

  abbrev passing : ℕ → ℕ → Bool
  passing n k = is_passing key moment q rows n k

  module _ (has : ℕ → ℕ → Bool) (kept : (n k : ℕ) → is_waited_for key moment rows n k ≡ true → has n k ≡ true) where
    -- what is kept of those that pass
    those_kept : (r : A) (m : ℕ) → find (λ x. key x == key r) (filter q rows) ≡ Some r → moment r ≡ Some m → (has m (key r) && passing m (key r)) ≡ true
    those_kept r m at waits =
        let is = kept_passes (key r) r at in
        let itself : (m == m) ≡ true = grind (arith, nat_tests) in
        let awaited : is_waited_for key moment rows m (key r) ≡ true = rw (is.0, waits, itself) refl in
        let its : passing m (key r) ≡ true = rw (is.0, waits, itself, is.1) refl in
        rw (kept m (key r) awaited, its) refl

    both : (s t : Bool) → (s && t) ≡ true → (s ≡ true) × (t ≡ true)
    both true true is = (refl, refl)
    both true false is = absurd (cc)
    both false t is = absurd (cc)

    -- the first that is kept and passes is that of the row that is due first
    pub first_row : (o : Option (ℕ × ℕ)) → IsFirst passing now has o → o ≡ option_map (place_in_time key moment) (first_due key moment now (filter q rows))
    first_row None late =
        sym (ap (option_map (place_in_time key moment)) (due_none key moment now (filter q rows) (ascend_kept key q 0 rows up) (λ n k. has n k && passing n k) those_kept
        (λ n k is. let parts = both (has n k) (passing n k) is in late n k parts.0 parts.1)))
    first_row (Some f) first = by_found (find (λ r. key r == f.1) rows) refl first.1
      where
        by_moment : (r : A) (m : Option ℕ) → moment r ≡ m → (is_number f.0 m && q r) ≡ true → (moment r ≡ Some f.0) × (q r ≡ true)
        by_moment r None waits is = absurd (cc)
        by_moment r (Some m) waits is =
            let parts = both (m == f.0) (q r) is in
            let same : m ≡ f.0 = grind (arith, nat_tests, parts.0) in
            (waits ∙ ap (λ (x : ℕ). Some x) same, parts.1)

        by_found : (o : Option A) → find (λ r. key r == f.1) rows ≡ o → option_map_or (λ r. is_number f.0 (moment r) && q r) o false ≡ true → Some f ≡ option_map (place_in_time key moment) (first_due key moment now (filter q rows))
        by_found None at is = absurd (cc)
        by_found (Some r) at is =
            let its = by_moment r (moment r) refl is in
            let there : find (λ x. key x == f.1) (filter q rows) ≡ Some r = found_kept f.1 0 rows r up at ∙ rw its.1 refl in
            sym (due_first key moment now (filter q rows) (ascend_kept key q 0 rows up) (λ n k. has n k && passing n k) those_kept f r there its.0
            (λ n k is. let parts = both (has n k) (passing n k) is in first.3 n k parts.0 parts.1) first.2)

-- Pairs in order.
use Rattle.std.proofs.Common.{◌≡◌, ℕ, zero, suc, ◌+◌, ◌-◌, ◌||◌, List, [], ◌∷◌, ◌++◌, length, drop, filter, slice_index_or, Bool, true, false, cond, refl, ap, subst, arith, nat_cmp}
use Rattle.std.specs.declared.cmp.Ordering.{Ordering}
use Rattle.std.specs.declared.cmp.Ordering.TheVariants.{Less}
use Rattle.std.specs.Ordering.{is_eq, is_gt, ordering_then}
use Rattle.std.specs.List.{list_any, AllByRecursion}
use Rattle.std.specs.List.Sorted.{IsStrictlySortedBy}
use Rattle.std.proofs.lemmas.Bool.Decides.{nat_tests}
use Rattle.std.proofs.lemmas.Map.Keys.{sorted_head, sorted_tail}
use Rattle.zb_table.specs.Earliest.{is_earlier}
use Rattle.zb_lists.specs.Moments.{is_among, IsTimeOrdered}
use Rattle.zb_pairs.proofs.PairLemmas.{later_place, parts_of}

-- the order of pairs, by their parts
abbrev pub pair_cmp : (ℕ × ℕ) → (ℕ × ℕ) → Ordering
pair_cmp a b = ordering_then (nat_cmp a.0 b.0) (nat_cmp a.1 b.1)

-- of pairs of which none comes before p, none that is among them does
pub none_among : (p : ℕ × ℕ) (ps : List (ℕ × ℕ)) (n k : ℕ) → list_any (λ o. is_earlier o p) ps ≡ false → is_among ps n k ≡ true → is_earlier (n, k) p ≡ false
none_among p [] n k none has = absurd (cc)
none_among p (o ∷ ps) n k none has = by_test (is_eq (pair_cmp (n, k) o)) refl has (none_among p ps n k later)
  where
    later : list_any (λ x. is_earlier x p) ps ≡ false
    later = grind (arith, none)

    by_test : (t : Bool) → is_eq (pair_cmp (n, k) o) ≡ t → (t || is_among ps n k) ≡ true → (is_among ps n k ≡ true → is_earlier (n, k) p ≡ false) → is_earlier (n, k) p ≡ false
    by_test true same has rest =
        let parts = parts_of n k o same in
        grind (arith, nat_tests, parts, none)
    by_test false other has rest = rest has

-- nor does any where none is behind it, and it is one of them
pub none_before : (p : ℕ × ℕ) (ps : List (ℕ × ℕ)) (n k : ℕ) → IsTimeOrdered (p ∷ ps) → is_among (p ∷ ps) n k ≡ true → is_earlier (n, k) p ≡ false
none_before p ps n k order has = by_test (is_eq (pair_cmp (n, k) p)) refl has
  where
    by_test : (t : Bool) → is_eq (pair_cmp (n, k) p) ≡ t → (t || is_among ps n k) ≡ true → is_earlier (n, k) p ≡ false
    by_test true same has = let parts = parts_of n k p same in grind (arith, nat_tests, parts)
    by_test false other has = none_among p ps n k order.0 has

-- pairs that ascend are in order
pub order_sorted : (ps : List (ℕ × ℕ)) → IsStrictlySortedBy pair_cmp ps → IsTimeOrdered ps
order_sorted [] sorted = tt
order_sorted (p ∷ ps) sorted = (none p ps (sorted_head pair_cmp p ps sorted), order_sorted ps (sorted_tail pair_cmp p ps sorted))
  where
    none : (p : ℕ × ℕ) (ps : List (ℕ × ℕ)) → AllByRecursion (λ o. pair_cmp p o ≡ Less) ps → list_any (λ o. is_earlier o p) ps ≡ false
    none p [] up = refl
    none p (o ∷ ps) up =
        let here : is_earlier o p ≡ false = later_place p.0 p.1 o.0 o.1 (ap is_gt up.0) in
        rw here (none p ps up.1)

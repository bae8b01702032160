-- Keys that are kept under numbers: the order of pairs by their parts, and an index with one row more, or one fewer.
use Rattle.std.proofs.Common.{◌≡◌, ℕ, ◌==◌, ◌&&◌, nat_lt, List, Bool, true, false, cond, if◌then◌else◌, Option, Some, None, refl, sym, ap, ◌∙◌, arith, nat_cmp}
use Rattle.std.specs.declared.cmp.Ordering.TheVariants.{Less, Equal, Greater}
use Rattle.std.specs.Ordering.{is_eq, is_gt, ordering_then}
use Rattle.std.specs.List.{find}
use Rattle.std.specs.BTreeSet.{BTreeSet}
use Rattle.std.proofs.lemmas.Bool.Decides.{nat_tests}
use Rattle.zb_table.specs.Earliest.{is_earlier}
use Rattle.zb_table.specs.Rows.{with_row, without}
use Rattle.zb_pairs.specs.Pairs.{has_pair, is_number, is_row_under, IsIndex}
use Rattle.zb_pairs.proofs.FoundLemmas.{found_with, found_without}

-- pairs are equal where both parts are
pub same_place : (a b c d : ℕ) → is_eq (ordering_then (nat_cmp a c) (nat_cmp b d)) ≡ ((a == c) && (b == d))
same_place a b c d = by_tests (nat_lt a c) (a == c) (nat_lt b d) (b == d) (λ is. grind (arith, nat_tests)) (λ is. grind (arith, nat_tests))
  where
    by_tests : (t u v w : Bool) → (t ≡ true → u ≡ false) → (v ≡ true → w ≡ false) → is_eq (ordering_then (cond t Less (cond u Equal Greater)) (cond v Less (cond w Equal Greater))) ≡ (u && w)
    by_tests true u v w front back = rw (front refl) refl
    by_tests false false v w front back = refl
    by_tests false true true w front back = rw (back refl) refl
    by_tests false true false false front back = refl
    by_tests false true false true front back = refl

-- a pair that isn't greater has none before it
pub later_place : (a b c d : ℕ) → is_gt (ordering_then (nat_cmp a c) (nat_cmp b d)) ≡ false → is_earlier (c, d) (a, b) ≡ false
later_place a b c d = by_tests (nat_lt a c) (a == c) (nat_lt b d) (b == d) refl refl refl refl
  where
    by_tests : (t u v w : Bool) → nat_lt a c ≡ t → (a == c) ≡ u → nat_lt b d ≡ v → (b == d) ≡ w → is_gt (ordering_then (cond t Less (cond u Equal Greater)) (cond v Less (cond w Equal Greater))) ≡ false → is_earlier (c, d) (a, b) ≡ false
    by_tests true u v w ac same bd other is = grind (arith, nat_tests)
    by_tests false false v w ac same bd other is = absurd (cc)
    by_tests false true true w ac same bd other is = grind (arith, nat_tests)
    by_tests false true false false ac same bd other is = absurd (cc)
    by_tests false true false true ac same bd other is = grind (arith, nat_tests)

-- pairs that compare equal have the same parts
pub parts_of : (n k : ℕ) (p : ℕ × ℕ) → is_eq (ordering_then (nat_cmp n p.0) (nat_cmp k p.1)) ≡ true → (n ≡ p.0) × (k ≡ p.1)
parts_of n k p is =
    let both : ((n == p.0) && (k == p.1)) ≡ true = sym (same_place n k p.0 p.1) ∙ is in
    (grind (arith, nat_tests, both), grind (arith, nat_tests, both))

module _ {A : Type 0} (key : A → ℕ) (number : A → Option ℕ) (rows : List A) (pairs : BTreeSet (ℕ × ℕ)) (index : IsIndex key number rows pairs) where
  -- with a row whose key none has
  pub index_with : (row : A) (new : BTreeSet (ℕ × ℕ)) → find (λ r. key r == key row) rows ≡ None
      → ((n k : ℕ) → has_pair new n k ≡ (if is_number n (number row) && (key row == k) then true else has_pair pairs n k))
      → IsIndex key number (with_row key row rows) new
  index_with row new none puts n k =
      puts n k ∙ (by_test (key row == k) refl ∙ sym (ap (is_row_under number n) (found_with key row k rows none)))
    where
      here : (b : Bool) → (if b && true then true else false) ≡ b
      here true = refl
      here false = refl

      elsewhere : (b old : Bool) → (if b && false then true else old) ≡ old
      elsewhere true old = refl
      elsewhere false old = refl

      by_test : (t : Bool) → (key row == k) ≡ t → (if is_number n (number row) && t then true else has_pair pairs n k) ≡ is_row_under number n (cond t (Some row) (find (λ r. key r == k) rows))
      by_test true same =
          let is : key row ≡ k = grind (arith, nat_tests, same) in
          let free : has_pair pairs n k ≡ false = index n k ∙ ap (is_row_under number n) (ap (λ (j : ℕ). find (λ (r : A). key r == j) rows) (sym is) ∙ none) in
          rw free (here (is_number n (number row)))
      by_test false other = rw (index n k) (elsewhere (is_number n (number row)) (is_row_under number n (find (λ r. key r == k) rows)))

  -- without the row with a key
  pub index_without : (gone : ℕ) (row : A) (new : BTreeSet (ℕ × ℕ)) → find (λ r. key r == gone) rows ≡ Some row
      → ((n k : ℕ) → has_pair new n k ≡ (if is_number n (number row) && (gone == k) then false else has_pair pairs n k))
      → IsIndex key number (without key gone rows) new
  index_without gone row new at takes n k =
      takes n k ∙ (by_test (gone == k) refl ∙ sym (ap (is_row_under number n) (found_without key gone k rows)))
    where
      here : (b : Bool) → (if b && true then false else b) ≡ false
      here true = refl
      here false = refl

      elsewhere : (b old : Bool) → (if b && false then false else old) ≡ old
      elsewhere true old = refl
      elsewhere false old = refl

      by_test : (t : Bool) → (gone == k) ≡ t → (if is_number n (number row) && t then false else has_pair pairs n k) ≡ is_row_under number n (cond t None (find (λ r. key r == k) rows))
      by_test true same =
          let is : gone ≡ k = grind (arith, nat_tests, same) in
          let old : has_pair pairs n k ≡ is_number n (number row) = index n k ∙ ap (is_row_under number n) (ap (λ (j : ℕ). find (λ (r : A). key r == j) rows) (sym is) ∙ at) in
          rw old (here (is_number n (number row)))
      by_test false other = rw (index n k) (elsewhere (is_number n (number row)) (is_row_under number n (find (λ r. key r == k) rows)))

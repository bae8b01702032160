-- Keys that are kept, with one more and with one fewer.
use Rattle.std.proofs.Common.{◌≡◌, ℕ, ◌==◌, nat_lt, List, [], ◌∷◌, Bool, true, false, not, ◌||◌, cond, if◌then◌else◌, refl, arith}
use Rattle.std.proofs.lemmas.Bool.Decides.{nat_tests}
use Rattle.zb_table.specs.Rows.{with_row, without}
use Rattle.zb_board.specs.Indexed.{is_kept}

-- the keys of cells that are kept
abbrev own : ℕ → ℕ
own key = key

module _ (key : ℕ) where
  -- a key that was put among others is there, and so are the others
  pub put_kept : (keys : List ℕ) → is_kept (with_row own key keys) key ≡ true
  put_kept [] = let same : (key == key) ≡ true = grind (arith, nat_tests) in rw same refl
  put_kept (k ∷ keys) = by_tests (nat_lt k key) (k == key) (put_kept keys)
    where
      by_tests : (t u : Bool) → is_kept (with_row own key keys) key ≡ true → is_kept (if t then k ∷ with_row own key keys else if u then key ∷ keys else key ∷ k ∷ keys) key ≡ true
      by_tests true u later = rw later (grind arith)
      by_tests false true later = let same : (key == key) ≡ true = grind (arith, nat_tests) in rw same refl
      by_tests false false later = let same : (key == key) ≡ true = grind (arith, nat_tests) in rw same refl

  pub still_kept : (keys : List ℕ) (k : ℕ) → is_kept keys k ≡ true → is_kept (with_row own key keys) k ≡ true
  still_kept [] k is = absurd (cc)
  still_kept (r ∷ keys) k is = by_tests (nat_lt r key) (r == key) (r == k) refl refl is (still_kept keys k)
    where
      by_tests : (t u v : Bool) → (r == key) ≡ u → (r == k) ≡ v → (v || is_kept keys k) ≡ true → (is_kept keys k ≡ true → is_kept (with_row own key keys) k ≡ true)
          → is_kept (if t then r ∷ with_row own key keys else if u then key ∷ keys else key ∷ r ∷ keys) k ≡ true
      by_tests true u true at same is later = rw same refl
      by_tests true u false at other is later = rw other (later is)
      by_tests false true true at same is later = let it : (key == k) ≡ true = grind (arith, nat_tests) in rw it refl
      by_tests false true false at other is later = rw is (grind arith)
      by_tests false false true at same is later = rw same (grind arith)
      by_tests false false false at other is later = rw (other, is) (grind arith)

  -- without a key the others are there
  pub left_kept : (keys : List ℕ) (k : ℕ) → (k == key) ≡ false → is_kept keys k ≡ true → is_kept (without own key keys) k ≡ true
  left_kept [] k other is = absurd (cc)
  left_kept (r ∷ keys) k other is = by_tests (r == key) (r == k) refl refl is (left_kept keys k other)
    where
      by_tests : (u v : Bool) → (r == key) ≡ u → (r == k) ≡ v → (v || is_kept keys k) ≡ true → (is_kept keys k ≡ true → is_kept (without own key keys) k ≡ true)
          → is_kept (cond (not u) (r ∷ without own key keys) (without own key keys)) k ≡ true
      by_tests true true at same is later = absurd (let both : (k == key) ≡ true = grind (arith, nat_tests) in cc)
      by_tests true false at apart is later = later is
      by_tests false true at same is later = rw same refl
      by_tests false false at apart is later = rw apart (later is)

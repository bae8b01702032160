-- Finding a place by its key.
use Rattle.std.proofs.Common.{◌≡◌, ℕ, zero, suc, ◌+◌, ◌-◌, ◌<◌, ◌≤◌, ◌==◌, nat_lt, List, [], ◌∷◌, length, get_or, slice_get, Option, Some, None, Bool, true, false, if◌then◌else◌, refl, ap, subst, arith}
use Rattle.std.proofs.lemmas.Bool.Decides.{nat_tests}
use Rattle.zb_table.specs.declared.row.Place.{Place}
use Rattle.zb_table.specs.Rows.{Ascend, row_at}
use Rattle.zb_table.proofs.Ascending.{lower}
use Rattle.zb_table.specs.Places.{held, rows_in, IsUnder, AreOrdered, count_below}

module _ {A : Type 0} where
  -- no more of them have lower keys than there are
  pub count_within : (k : ℕ) (ps : List (Place A)) → count_below k ps ≤ length ps
  count_within k [] = omega arith
  count_within k (p ∷ ps) = by_test (nat_lt p.key k) (count_within k ps)
    where
      by_test : (t : Bool) → count_below k ps ≤ length ps → (if t then suc (count_below k ps) else 0) ≤ suc (length ps)
      by_test true later = omega (arith, later)
      by_test false later = omega arith

  -- behind a place whose key isn't lower there are none
  pub none_behind : (k : ℕ) (ps : List (Place A)) (i : ℕ) (q : Place A) → slice_get ps i ≡ Some q → k ≤ q.key → count_below k ps ≤ i
  none_behind k [] i q at above = absurd (cc)
  none_behind k (p ∷ ps) zero q at above =
      let same : p.key ≡ q.key = ap (λ (z : Place A). z.key) (let here : p ≡ q = cc in here) in
      let test : nat_lt p.key k ≡ false = grind (arith, nat_tests, same, above) in
      rw test (omega arith)
  none_behind k (p ∷ ps) (suc i) q at above = by_test (nat_lt p.key k) (none_behind k ps i q at above)
    where
      by_test : (t : Bool) → count_below k ps ≤ i → (if t then suc (count_below k ps) else 0) ≤ suc i
      by_test true later = omega (arith, later)
      by_test false later = omega arith

  -- what is at a place
  pub at_place : (ps : List (Place A)) (i : ℕ) (d : Place A) → i < length ps → slice_get ps i ≡ Some (get_or ps i d)
  at_place [] i d within = absurd (omega (arith, within))
  at_place (p ∷ ps) zero d within = refl
  at_place (p ∷ ps) (suc i) d within = at_place ps i d (omega (arith, within))

module _ {A : Type 0} (key : A → ℕ) where
  -- no row has a key below theirs
  pub none_above : (k low : ℕ) (ps : List (Place A)) → AreOrdered key low ps → k < low → row_at key k (rows_in ps) ≡ None
  none_above k low [] o below = refl
  none_above k low (p ∷ ps) o below = by_row p.row o.1 (none_above k (p.key + 1) ps o.2 (omega (arith, below, o.0)))
    where
      by_row : (row : Option A) → IsUnder key p.key row → row_at key k (rows_in ps) ≡ None → row_at key k (held row (rows_in ps)) ≡ None
      by_row None under later = later
      by_row (Some r) under later = let other : (key r == k) ≡ false = grind (arith, nat_tests, under, o.0, below) in rw other later

  -- a row with another key is passed over
  pub passed_over : (k at : ℕ) (row : Option A) (rows : List A) → IsUnder key at row → at < k → row_at key k (held row rows) ≡ row_at key k rows
  passed_over k at None rows under below = refl
  passed_over k at (Some r) rows under below = let other : (key r == k) ≡ false = grind (arith, nat_tests, under, below) in rw other refl

  -- the row with the key of a place is the one that it has
  pub row_found : (low : ℕ) (ps : List (Place A)) (i : ℕ) (q : Place A) → AreOrdered key low ps → slice_get ps i ≡ Some q → (low ≤ q.key) × (row_at key q.key (rows_in ps) ≡ q.row)
  row_found low [] i q o at = absurd (cc)
  row_found low (p ∷ ps) zero q o at =
      let same : p ≡ q = cc in
      subst (λ (z : Place A). (low ≤ z.key) × (row_at key z.key (rows_in (p ∷ ps)) ≡ z.row)) same (o.0, by_row p.row o.1)
    where
      by_row : (row : Option A) → IsUnder key p.key row → row_at key p.key (held row (rows_in ps)) ≡ row
      by_row None under = none_above p.key (p.key + 1) ps o.2 (omega arith)
      by_row (Some r) under = let test : (key r == p.key) ≡ true = grind (arith, nat_tests, under) in rw test refl
  row_found low (p ∷ ps) (suc i) q o at =
      let later = row_found (p.key + 1) ps i q o.2 at in
      (omega (arith, later.0, o.0), rw (passed_over q.key p.key p.row (rows_in ps) o.1 (omega (arith, later.0))) later.1)

  -- the row of a place has its key
  pub keyed : (low : ℕ) (ps : List (Place A)) (i : ℕ) (q : Place A) (row : A) → AreOrdered key low ps → slice_get ps i ≡ Some q → q.row ≡ Some row → key row ≡ q.key
  keyed low [] i q row o at is = absurd (cc)
  keyed low (p ∷ ps) zero q row o at is =
      let same : p ≡ q = cc in
      subst (λ (r : Option A). IsUnder key q.key r) is (subst (λ (z : Place A). IsUnder key z.key z.row) same o.1)
  keyed low (p ∷ ps) (suc i) q row o at is = keyed (p.key + 1) ps i q row o.2 at is

  -- up to a place whose key is lower all are
  pub all_before : (k low : ℕ) (ps : List (Place A)) (i : ℕ) (q : Place A) → AreOrdered key low ps → slice_get ps i ≡ Some q → q.key < k → i + 1 ≤ count_below k ps
  all_before k low [] i q o at below = absurd (cc)
  all_before k low (p ∷ ps) zero q o at below =
      let same : p.key ≡ q.key = ap (λ (z : Place A). z.key) (let here : p ≡ q = cc in here) in
      let test : nat_lt p.key k ≡ true = grind (arith, nat_tests, same, below) in
      rw test (omega arith)
  all_before k low (p ∷ ps) (suc i) q o at below =
      let here = row_found (p.key + 1) ps i q o.2 at in
      let later = all_before k (p.key + 1) ps i q o.2 at below in
      let test : nat_lt p.key k ≡ true = grind (arith, nat_tests, here.0, below) in
      rw test (omega (arith, later))

  -- below the key of a place are those in front of it
  pub its_own : (low : ℕ) (ps : List (Place A)) (i : ℕ) (q : Place A) → AreOrdered key low ps → slice_get ps i ≡ Some q → count_below q.key ps ≡ i
  its_own low [] i q o at = absurd (cc)
  its_own low (p ∷ ps) zero q o at =
      let same : p.key ≡ q.key = ap (λ (z : Place A). z.key) (let here : p ≡ q = cc in here) in
      let test : nat_lt p.key q.key ≡ false = grind (arith, nat_tests, same) in
      rw test refl
  its_own low (p ∷ ps) (suc i) q o at =
      let here = row_found (p.key + 1) ps i q o.2 at in
      let test : nat_lt p.key q.key ≡ true = grind (arith, nat_tests, here.0) in
      rw test (ap suc (its_own (p.key + 1) ps i q o.2 at))

  -- all are below where the last one is
  pub all_below : (k : ℕ) (ps : List (Place A)) (last : Place A) → AreOrdered key 0 ps → slice_get ps (length ps - 1) ≡ Some last → last.key < k → length ps ≡ count_below k ps
  all_below k ps last o at below = omega (arith, count_within k ps, all_before k 0 ps (length ps - 1) last o at below)

  -- no row has the key where no place has it
  pub row_none : (k low : ℕ) (ps : List (Place A)) → AreOrdered key low ps → ((q : Place A) → slice_get ps (count_below k ps) ≡ Some q → (q.key == k) ≡ false) → row_at key k (rows_in ps) ≡ None
  row_none k low [] o other = refl
  row_none k low (p ∷ ps) o other = by_test (row_none k (p.key + 1) ps o.2) (nat_lt p.key k) refl other
    where
      by_test : (((q : Place A) → slice_get ps (count_below k ps) ≡ Some q → (q.key == k) ≡ false) → row_at key k (rows_in ps) ≡ None) → (t : Bool) → nat_lt p.key k ≡ t → ((q : Place A) → slice_get (p ∷ ps) (if t then suc (count_below k ps) else 0) ≡ Some q → (q.key == k) ≡ false)
          → row_at key k (held p.row (rows_in ps)) ≡ None
      by_test later true below other =
          let lower : p.key < k = grind (arith, nat_tests) in
          rw (passed_over k p.key p.row (rows_in ps) o.1 lower) (later other)
      by_test later false above other =
          let another : (p.key == k) ≡ false = other p refl in
          let lower : k < p.key = grind (arith, nat_tests) in
          none_above k p.key (p ∷ ps) (omega arith, o.1, o.2) lower

  -- the rows ascend
  pub rows_ascend : (low : ℕ) (ps : List (Place A)) → AreOrdered key low ps → Ascend key low (rows_in ps)
  rows_ascend low [] o = tt
  rows_ascend low (p ∷ ps) o = by_row p.row o.1 (rows_ascend (p.key + 1) ps o.2)
    where
      by_row : (row : Option A) → IsUnder key p.key row → Ascend key (p.key + 1) (rows_in ps) → Ascend key low (held row (rows_in ps))
      by_row None under up = lower key low (p.key + 1) (rows_in ps) (omega (arith, o.0)) up
      by_row (Some r) under up = (omega (arith, o.0, under), rw under up)

-- Rows more, and fewer.
use Rattle.std.proofs.Common.{◌≡◌, ℕ, suc, ◌+◌, ◌<◌, ◌≤◌, ◌==◌, nat_lt, not, List, [], ◌∷◌, ◌++◌, length, drop, get_or, Option, Some, None, is_some, Bool, ◌&&◌, ◌||◌, true, false, if◌then◌else◌, IsTrue, refl, ap, sym, ◌∙◌, arith}
use Rattle.std.specs.List.{list_any}
use Rattle.std.specs.Option.{option_map_or}
use Rattle.std.proofs.Math.Numerals.{add-one}
use Rattle.std.proofs.Math.Seq.{drop-cons}
use Rattle.std.proofs.lemmas.Bool.Decides.{nat_tests}
use Rattle.zb_table.specs.declared.row.Place.{Place}
use Rattle.zb_table.specs.Rows.{Ascend, are_below, row_at, without, with_row}
use Rattle.zb_table.specs.Places.{held, rows_in}

module _ {A : Type 0} (key : A → ℕ) where
  -- a row whose key is greater than all stands behind them
  pub with_last : (row : A) (rows : List A) → IsTrue (are_below key (key row) rows) → with_row key row rows ≡ rows ++ row ∷ []
  with_last row [] below = refl
  with_last row (r ∷ rows) below =
      let here : nat_lt (key r) (key row) ≡ true = grind (arith, nat_tests, below) in
      let later : IsTrue (are_below key (key row) rows) = grind (arith, nat_tests, below) in
      rw here (ap (λ (l : List A). r ∷ l) (with_last row rows later))

  -- below a higher end
  pub below_higher : (high high' : ℕ) (rows : List A) → high ≤ high' → IsTrue (are_below key high rows) → IsTrue (are_below key high' rows)
  below_higher high high' [] le below = below
  below_higher high high' (r ∷ rows) le below =
      let here : key r < high = grind (arith, nat_tests, below) in
      let later : IsTrue (are_below key high rows) = grind (arith, nat_tests, below) in
      let rest = below_higher high high' rows le later in
      let test : nat_lt (key r) high' ≡ true = grind (arith, nat_tests, here, le) in
      rw test rest

  -- with one more
  pub below_more : (high : ℕ) (rows : List A) (row : A) → key row < high → IsTrue (are_below key high rows) → IsTrue (are_below key high (rows ++ row ∷ []))
  below_more high [] row less below = let test : nat_lt (key row) high ≡ true = grind (arith, nat_tests, less) in rw test refl
  below_more high (r ∷ rows) row less below =
      let here : nat_lt (key r) high ≡ true = grind (arith, nat_tests, below) in
      let later : IsTrue (are_below key high rows) = grind (arith, nat_tests, below) in
      rw here (below_more high rows row less later)

  -- without some
  pub below_without : (k high : ℕ) (rows : List A) → IsTrue (are_below key high rows) → IsTrue (are_below key high (without key k rows))
  below_without k high [] below = below
  below_without k high (r ∷ rows) below =
      let here : nat_lt (key r) high ≡ true = grind (arith, nat_tests, below) in
      let later : IsTrue (are_below key high rows) = grind (arith, nat_tests, below) in
      by_test (key r == k) here (below_without k high rows later)
    where
      by_test : (t : Bool) → nat_lt (key r) high ≡ true → IsTrue (are_below key high (without key k rows)) → IsTrue (are_below key high (if not t then r ∷ without key k rows else without key k rows))
      by_test true here rest = rest
      by_test false here rest = rw here rest

  -- one has the key where there is a row with it
  pub has_row : (k : ℕ) (rows : List A) → is_some (row_at key k rows) ≡ list_any (λ r. key r == k) rows
  has_row k [] = refl
  has_row k (r ∷ rows) = by_test (key r == k) (has_row k rows)
    where
      by_test : (t : Bool) → is_some (row_at key k rows) ≡ list_any (λ r. key r == k) rows → is_some (if t then Some r else row_at key k rows) ≡ (t || list_any (λ r. key r == k) rows)
      by_test true later = refl
      by_test false later = later

  -- one with the key passes where the row with it does
  none_lower : (passes : A → Bool) (k low : ℕ) (rows : List A) → Ascend key low rows → k < low → list_any (λ r. (key r == k) && passes r) rows ≡ false
  none_lower passes k low [] up below = refl
  none_lower passes k low (r ∷ rows) up below =
      let other : (key r == k) ≡ false = grind (arith, nat_tests, up.0, below) in
      rw other (none_lower passes k (key r + 1) rows up.1 (omega (arith, up.0, below)))

  pub passes_at : (passes : A → Bool) (k low : ℕ) (rows : List A) → Ascend key low rows → option_map_or passes (row_at key k rows) false ≡ list_any (λ r. (key r == k) && passes r) rows
  passes_at passes k low [] up = refl
  passes_at passes k low (r ∷ rows) up = by_test (key r == k) refl (passes_at passes k (key r + 1) rows up.1)
    where
      by_test : (t : Bool) → (key r == k) ≡ t → option_map_or passes (row_at key k rows) false ≡ list_any (λ r. (key r == k) && passes r) rows
          → option_map_or passes (if t then Some r else row_at key k rows) false ≡ ((t && passes r) || list_any (λ r. (key r == k) && passes r) rows)
      by_test true same later = let none = none_lower passes k (key r + 1) rows up.1 (grind (arith, nat_tests)) in rw none (grind arith)
      by_test false other later = later

-- whether a row from one place on passes
any_held : {A : Type 0} (passes : A → Bool) (row : Option A) (rows : List A) → list_any passes (held row rows) ≡ (option_map_or passes row false || list_any passes rows)
any_held passes None rows = refl
any_held passes (Some r) rows = refl

pub any_from : {A : Type 0} (passes : A → Bool) (ps : List (Place A)) (i : ℕ) (p : Place A) → i < length ps → p ≡ get_or ps i p
    → list_any passes (rows_in (drop i ps)) ≡ (option_map_or passes p.row false || list_any passes (rows_in (drop (i + 1) ps)))
any_from {A = A} passes ps i p within at =
    let split : drop i ps ≡ p ∷ drop (i + 1) ps = rw add-one (drop-cons ps i p within ∙ ap (λ (q : Place A). q ∷ drop (suc i) ps) (sym at)) in
    ap (λ (l : List (Place A)). list_any passes (rows_in l)) split ∙ any_held passes p.row (rows_in (drop (i + 1) ps))

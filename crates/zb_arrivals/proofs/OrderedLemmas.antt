-- Rows whose keys ascend: what is found among them, and one fewer or one changed.
use Rattle.std.proofs.Common.{◌≡◌, ℕ, ◌+◌, ◌≤◌, ◌==◌, List, [], ◌∷◌, Bool, true, false, not, cond, if◌then◌else◌, Option, Some, None, is_some, option_map, refl, sym, ap, ◌∙◌, arith}
use Rattle.std.specs.List.{find}
use Rattle.std.proofs.lemmas.Bool.Decides.{nat_tests}
use Rattle.zb_table.specs.Rows.{Ascend, first_passing, row_at, with_edit, without}
use Rattle.zb_table.proofs.Changing.{without_none, edit_none}
use Rattle.zb_table.specs.Edits.{edited, removed}

-- what is found first
pub first_is_found : {A : Type 0} (p : A → Bool) (xs : List A) → first_passing p xs ≡ find p xs
first_is_found p [] = refl
first_is_found {A} p (x ∷ xs) = by_test (p x) (first_is_found p xs)
  where
    by_test : (t : Bool) → first_passing p xs ≡ find p xs → ◌≡◌ {A = Option A} (if t then Some x else first_passing p xs) (cond t (Some x) (find p xs))
    by_test true later = refl
    by_test false later = later

module _ {A : Type 0} (key : A → ℕ) where
  -- what is found isn't below the first
  pub found_above : (p : A → Bool) (low : ℕ) (rows : List A) (r : A) → Ascend key low rows → first_passing p rows ≡ Some r → low ≤ key r
  found_above p low [] r up is = absurd (cc)
  found_above p low (x ∷ rows) r up is = by_test (p x) is (found_above p (key x + 1) rows r up.1)
    where
      by_test : (t : Bool) → ◌≡◌ {A = Option A} (if t then Some x else first_passing p rows) (Some r) → (first_passing p rows ≡ Some r → key x + 1 ≤ key r) → low ≤ key r
      by_test true is later = let same : x ≡ r = cc in rw (sym same) up.0
      by_test false is later = let above = later is in omega (arith, up.0, above)

  -- what is found has the key that it is found with
  pub has_key : (k : ℕ) (rows : List A) (r : A) → row_at key k rows ≡ Some r → key r ≡ k
  has_key k [] r is = absurd (cc)
  has_key k (x ∷ rows) r is = by_test (key x == k) refl is (has_key k rows r)
    where
      by_test : (t : Bool) → (key x == k) ≡ t → ◌≡◌ {A = Option A} (if t then Some x else row_at key k rows) (Some r) → (row_at key k rows ≡ Some r → key r ≡ k) → key r ≡ k
      by_test true here is later = let same : x ≡ r = cc in ap key (sym same) ∙ grind (arith, nat_tests)
      by_test false here is later = later is

  -- the first row that passes is the one with its key
  pub finds_first : (p : A → Bool) (low : ℕ) (rows : List A) (r : A) → Ascend key low rows → first_passing p rows ≡ Some r → row_at key (key r) rows ≡ Some r
  finds_first p low [] r up is = absurd (cc)
  finds_first p low (x ∷ rows) r up is = by_test (p x) is (finds_first p (key x + 1) rows r up.1) (found_above p (key x + 1) rows r up.1)
    where
      by_test : (t : Bool) → ◌≡◌ {A = Option A} (if t then Some x else first_passing p rows) (Some r) → (first_passing p rows ≡ Some r → row_at key (key r) rows ≡ Some r)
          → (first_passing p rows ≡ Some r → key x + 1 ≤ key r) → row_at key (key r) (x ∷ rows) ≡ Some r
      by_test true is later above =
          let same : x ≡ r = cc in
          let here : (key x == key r) ≡ true = (let k : key x ≡ key r = ap key same in grind (arith, nat_tests, k)) in
          rw here (ap Some same)
      by_test false is later above =
          let far = above is in
          let other : (key x == key r) ≡ false = grind (arith, nat_tests, far) in
          rw other (later is)

  -- the first row that passes, by its key
  pub first_with_key : (p : A → Bool) (rows : List A) (k : ℕ) → Ascend key 0 rows → Some k ≡ option_map key (first_passing p rows) → (r : A) × (first_passing p rows ≡ Some r) × (row_at key k rows ≡ Some r)
  first_with_key p rows k up is = by_found (first_passing p rows) refl is
    where
      by_found : (found : Option A) → first_passing p rows ≡ found → Some k ≡ option_map key found → (r : A) × (found ≡ Some r) × (row_at key k rows ≡ Some r)
      by_found None at is = absurd (cc)
      by_found (Some r) at is =
          let same : k ≡ key r = cc in
          (r, refl, ap (λ (n : ℕ). row_at key n rows) same ∙ finds_first p 0 rows r up at)

  pub none_first : (p : A → Bool) (rows : List A) → None ≡ option_map key (first_passing p rows) → find p rows ≡ None
  none_first p rows is = sym (first_is_found p rows) ∙ by_found (first_passing p rows) is
    where
      by_found : (found : Option A) → None ≡ option_map key found → found ≡ None
      by_found None is = refl
      by_found (Some r) is = absurd (cc)

  -- and the first that is taken out is that one
  pub removes_first : (p : A → Bool) (low : ℕ) (rows : List A) (r : A) → Ascend key low rows → first_passing p rows ≡ Some r → removed (λ x. key x == key r) rows ≡ removed p rows
  removes_first p low [] r up is = absurd (cc)
  removes_first p low (x ∷ rows) r up is = by_test (p x) is (removes_first p (key x + 1) rows r up.1) (found_above p (key x + 1) rows r up.1)
    where
      by_test : (t : Bool) → ◌≡◌ {A = Option A} (if t then Some x else first_passing p rows) (Some r) → (first_passing p rows ≡ Some r → removed (λ x. key x == key r) rows ≡ removed p rows)
          → (first_passing p rows ≡ Some r → key x + 1 ≤ key r) → removed (λ x. key x == key r) (x ∷ rows) ≡ (if t then Some rows else option_map (λ ys. x ∷ ys) (removed p rows))
      by_test true is later above =
          let same : x ≡ r = cc in
          let here : (key x == key r) ≡ true = (let k : key x ≡ key r = ap key same in grind (arith, nat_tests, k)) in
          rw here refl
      by_test false is later above =
          let far = above is in
          let other : (key x == key r) ≡ false = grind (arith, nat_tests, far) in
          rw other (ap (option_map (λ ys. x ∷ ys)) (later is))

  -- the row with a key is taken out
  pub removed_row : (k low : ℕ) (rows : List A) (r : A) → Ascend key low rows → row_at key k rows ≡ Some r → removed (λ x. key x == k) rows ≡ Some (without key k rows)
  removed_row k low [] r up is = absurd (cc)
  removed_row k low (x ∷ rows) r up is = by_test (key x == k) refl is (removed_row k (key x + 1) rows r up.1)
    where
      by_test : (t : Bool) → (key x == k) ≡ t → ◌≡◌ {A = Option A} (if t then Some x else row_at key k rows) (Some r)
          → (row_at key k rows ≡ Some r → removed (λ x. key x == k) rows ≡ Some (without key k rows))
          → (if t then Some rows else option_map (λ ys. x ∷ ys) (removed (λ x. key x == k) rows)) ≡ Some (cond (not t) (x ∷ without key k rows) (without key k rows))
      by_test true here is later = rw (without_none key k (key x + 1) rows up.1 (grind (arith, nat_tests, here))) refl
      by_test false here is later = ap (option_map (λ ys. x ∷ ys)) (later is)

  -- the row with a key is edited
  pub edited_row : (f : A → A) (k low : ℕ) (rows : List A) → Ascend key low rows → true ≡ is_some (row_at key k rows) → edited (λ x. key x == k) f rows ≡ Some (with_edit key k f rows)
  edited_row f k low [] up is = absurd (cc)
  edited_row f k low (x ∷ rows) up is = by_test (key x == k) refl is (edited_row f k (key x + 1) rows up.1)
    where
      by_test : (t : Bool) → (key x == k) ≡ t → true ≡ is_some (if t then Some x else row_at key k rows)
          → (true ≡ is_some (row_at key k rows) → edited (λ x. key x == k) f rows ≡ Some (with_edit key k f rows))
          → (if t then Some (f x ∷ rows) else option_map (λ ys. x ∷ ys) (edited (λ x. key x == k) f rows)) ≡ Some ((if t then f x else x) ∷ with_edit key k f rows)
      by_test true here is later = rw (edit_none key k f (key x + 1) rows up.1 (grind (arith, nat_tests, here))) refl
      by_test false here is later = ap (option_map (λ ys. x ∷ ys)) (later is)

-- where no row has a key none is found
pub none_with : {A : Type 0} (found : Option A) → false ≡ is_some found → found ≡ None
none_with None is = refl
none_with (Some r) is = absurd (cc)

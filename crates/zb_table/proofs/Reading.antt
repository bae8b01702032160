-- What is read of the row with a key, where a row is put or goes.
use Rattle.std.proofs.Common.{◌≡◌, ℕ, ◌==◌, nat_lt, List, [], ◌∷◌, map, Bool, true, false, not, cond, if◌then◌else◌, Option, Some, None, option_map, refl, ◌∙◌, arith}
use Rattle.std.specs.Option.{option_map_or}
use Rattle.std.proofs.lemmas.Bool.Decides.{nat_tests}
use Rattle.zb_table.specs.Rows.{row_at, with_edit, with_row, without}

module _ {A V : Type 0} (key : A → ℕ) (read : A → V) (none : V) where
  -- what is read of a row; something else where there is none
  abbrev read_of : Option A → V
  read_of found = option_map_or read found none

  module _ (new : A) (k : ℕ) where
    put_lower : (u : Bool) (r : A) (rows rest : List A) → (key r == k) ≡ u → nat_lt (key r) (key new) ≡ true → read_of (row_at key k rest) ≡ (if key new == k then read new else read_of (row_at key k rows))
        → read_of (if u then Some r else row_at key k rest) ≡ (if key new == k then read new else read_of (if u then Some r else row_at key k rows))
    put_lower true r rows rest same lower later = let other : (key new == k) ≡ false = grind (arith, nat_tests) in rw other refl
    put_lower false r rows rest other lower later = later

    put_here : (v : Bool) (r : A) (rows : List A) → (key new == k) ≡ v → (key r == key new) ≡ true
        → read_of (if v then Some new else row_at key k rows) ≡ (if v then read new else read_of (row_at key k (r ∷ rows)))
    put_here true r rows same at = refl
    put_here false r rows other at = let other' : (key r == k) ≡ false = grind (arith, nat_tests) in rw other' refl

    put_before : (v : Bool) (rows : List A) → read_of (if v then Some new else row_at key k rows) ≡ (if v then read new else read_of (row_at key k rows))
    put_before true rows = refl
    put_before false rows = refl

    put_by : (t u : Bool) (r : A) (rows : List A) → nat_lt (key r) (key new) ≡ t → (key r == key new) ≡ u → read_of (row_at key k (with_row key new rows)) ≡ (if key new == k then read new else read_of (row_at key k rows))
        → read_of (row_at key k (if t then r ∷ with_row key new rows else if u then new ∷ rows else new ∷ r ∷ rows)) ≡ (if key new == k then read new else read_of (row_at key k (r ∷ rows)))
    put_by true u r rows lower at later = put_lower (key r == k) r rows (with_row key new rows) refl lower later
    put_by false true r rows lower at later = put_here (key new == k) r rows refl at
    put_by false false r rows lower at later = put_before (key new == k) (r ∷ rows)

    -- with a row that is put there
    pub read_put : (rows : List A) → read_of (row_at key k (with_row key new rows)) ≡ (if key new == k then read new else read_of (row_at key k rows))
    read_put [] = put_before (key new == k) []
    read_put (r ∷ rows) = put_by (nat_lt (key r) (key new)) (key r == key new) r rows refl refl (read_put rows)

  module _ (gone k : ℕ) where
    gone_by : (w u : Bool) (r : A) (rows rest : List A) → (key r == gone) ≡ w → (key r == k) ≡ u → read_of (row_at key k rest) ≡ (if gone == k then none else read_of (row_at key k rows))
        → read_of (row_at key k (cond (not w) (r ∷ rest) rest)) ≡ (if gone == k then none else read_of (if u then Some r else row_at key k rows))
    gone_by true true r rows rest its same later = let at : (gone == k) ≡ true = grind (arith, nat_tests) in rw at (later ∙ rw at refl)
    gone_by true false r rows rest its other later = later
    gone_by false true r rows rest other same later = let apart : (gone == k) ≡ false = grind (arith, nat_tests) in rw (same, apart) refl
    gone_by false false r rows rest other other' later = rw other' later

    none_left : (t : Bool) → ◌≡◌ {A = V} none (if t then none else none)
    none_left true = refl
    none_left false = refl

    -- without the row with a key
    pub read_gone : (rows : List A) → read_of (row_at key k (without key gone rows)) ≡ (if gone == k then none else read_of (row_at key k rows))
    read_gone [] = none_left (gone == k)
    read_gone (r ∷ rows) = gone_by (key r == gone) (key r == k) r rows (without key gone rows) refl refl (read_gone rows)

-- the row with a key, where that with another one, or it itself, is edited, and keys stay
pub row_edited : {A : Type 0} (key : A → ℕ) (g k : ℕ) (f : A → A) (rows : List A) → map key (with_edit key g f rows) ≡ map key rows
    → row_at key k (with_edit key g f rows) ≡ (if g == k then option_map f (row_at key k rows) else row_at key k rows)
row_edited {A} key g k f [] same = by_test (g == k)
  where
    by_test : (t : Bool) → ◌≡◌ {A = Option A} None (if t then None else None)
    by_test true = refl
    by_test false = refl
row_edited {A} key g k f (r ∷ rows) same =
    by_tests (key r == g) (key r == k) (g == k) refl refl refl (let here : key (if key r == g then f r else r) ≡ key r = cc in here)
    (row_edited key g k f rows (let later : map key (with_edit key g f rows) ≡ map key rows = cc in later))
  where
    by_tests : (s t u : Bool) → (key r == g) ≡ s → (key r == k) ≡ t → (g == k) ≡ u → key (if s then f r else r) ≡ key r
        → row_at key k (with_edit key g f rows) ≡ (if u then option_map f (row_at key k rows) else row_at key k rows)
        → ◌≡◌ {A = Option A} (row_at key k ((if s then f r else r) ∷ with_edit key g f rows)) (if u then option_map f (if t then Some r else row_at key k rows) else (if t then Some r else row_at key k rows))
    by_tests true true true its at both stays later = let here : (key (f r) == k) ≡ true = grind (arith, nat_tests, stays, at) in rw here refl
    by_tests true false false its at both stays later = let here : (key (f r) == k) ≡ false = grind (arith, nat_tests, stays, at) in rw here later
    by_tests false true false its at both stays later = rw at refl
    by_tests false false u its at both stays later = rw at later
    by_tests true true false its at both stays later = absurd (grind (arith, nat_tests, its, at, both))
    by_tests true false true its at both stays later = absurd (grind (arith, nat_tests, its, at, both))
    by_tests false true true its at both stays later = absurd (grind (arith, nat_tests, its, at, both))

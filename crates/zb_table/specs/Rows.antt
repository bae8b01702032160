-- Rows in the order of their keys.
use Rattle.std.specs.Prelude.{ℕ, ◌+◌, ◌≤◌, ◌==◌, nat_lt, List, [], ◌∷◌, map, filter, Bool, true, ◌&&◌, not, if◌then◌else◌, Option, Some, None}
use Rattle.std.specs.Option.{option_or}

-- the first member that passes
abbrev pub first_passing : {A : Type 0} → (A → Bool) → List A → Option A
first_passing passes [] = None
first_passing passes (x ∷ xs) = if passes x then Some x else first_passing passes xs

-- the last member that passes (own)
abbrev pub last_passing : {A : Type 0} → (A → Bool) → List A → Option A
last_passing passes [] = None
last_passing passes (x ∷ xs) = option_or (last_passing passes xs) (if passes x then Some x else None)

module _ {A : Type 0} (key : A → ℕ) where
  -- the keys ascend, from `low` on
  abbrev pub Ascend : ℕ → List A → Type 0
  Ascend low [] = Unit {0}
  Ascend low (r ∷ rows) = (low ≤ key r) × Ascend (key r + 1) rows

  -- the keys lie below this one
  abbrev pub are_below : ℕ → List A → Bool
  are_below high [] = true
  are_below high (r ∷ rows) = nat_lt (key r) high && are_below high rows

  -- the row with a key
  abbrev pub row_at : ℕ → List A → Option A
  row_at k rows = first_passing (λ r. key r == k) rows

  -- the rows but the one with a key
  abbrev pub without : ℕ → List A → List A
  without k rows = filter (λ r. not (key r == k)) rows

  -- the rows with one more, in front of those with greater keys, and in place of one with its key
  abbrev pub with_row : A → List A → List A
  with_row row [] = row ∷ []
  with_row row (r ∷ rows) = if nat_lt (key r) (key row) then r ∷ with_row row rows else if key r == key row then row ∷ rows else row ∷ r ∷ rows

  -- the rows with the one with a key edited, if there is one (own)
  abbrev pub with_edit : ℕ → (A → A) → List A → List A
  with_edit k edit rows = map (λ r. if key r == k then edit r else r) rows

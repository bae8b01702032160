-- Rows that are found by a number.
use Rattle.std.specs.Prelude.{◌≡◌, ℕ, ◌==◌, List, map, filter, Bool, false, Option, Some, None}
use Rattle.std.specs.declared.cmp.Ordering.{Ordering}
use Rattle.std.specs.List.{find}
use Rattle.std.specs.Ordering.{nat_cmp, ordering_then}
use Rattle.std.specs.BTreeSet.{BTreeSet, contains}

-- a key is kept under a number (own)
abbrev pub has_pair : BTreeSet (ℕ × ℕ) → ℕ → ℕ → Bool
has_pair pairs number key = contains (λ a b. ordering_then (nat_cmp a.0 b.0) (nat_cmp a.1 b.1)) pairs (number, key)

-- there is a number, and it is this one (own)
abbrev pub is_number : ℕ → Option ℕ → Bool
is_number n None = false
is_number n (Some m) = m == n

-- there is a row, and it has this number (own)
abbrev pub is_row_under : {A : Type 0} → (A → Option ℕ) → ℕ → Option A → Bool
is_row_under number n None = false
is_row_under number n (Some r) = is_number n (number r)

-- the key of each row is kept under its number, if it has one, and no other one is (own)
abbrev pub IsIndex : {A : Type 0} → (A → ℕ) → (A → Option ℕ) → List A → BTreeSet (ℕ × ℕ) → Type 0
IsIndex key number rows pairs = (n k : ℕ) → has_pair pairs n k ≡ is_row_under number n (find (λ r. key r == k) rows)

-- the order of pairs, by their parts (own)
abbrev pub place_cmp : (ℕ × ℕ) → (ℕ × ℕ) → Ordering
place_cmp a b = ordering_then (nat_cmp a.0 b.0) (nat_cmp a.1 b.1)

-- of pairs of a number and a key the keys of one number (own)
abbrev pub keys_under : ℕ → List (ℕ × ℕ) → List ℕ
keys_under number pairs = map (λ p. p.1) (filter (λ p. p.0 == number) pairs)

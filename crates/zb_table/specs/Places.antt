-- The places of a table.
use Rattle.std.specs.Prelude.{◌≡◌, ℕ, suc, ◌+◌, ◌≤◌, ◌==◌, nat_lt, false, List, [], ◌∷◌, slice_get, if◌then◌else◌, Option, Some, None, is_none}
use Rattle.std.specs.List.{count_by}
use Rattle.zb_table.specs.declared.row.Place.{Place}

-- a row, if there is one, in front of others
abbrev pub held : {A : Type 0} → Option A → List A → List A
held None rows = rows
held (Some r) rows = r ∷ rows

-- the rows that are there
abbrev pub rows_in : {A : Type 0} → List (Place A) → List A
rows_in [] = []
rows_in (p ∷ ps) = held p.row (rows_in ps)

-- a row, if there is one, has the key of its place
abbrev pub IsUnder : {A : Type 0} → (A → ℕ) → ℕ → Option A → Type 0
IsUnder key k None = Unit {0}
IsUnder key k (Some r) = key r ≡ k

-- the keys of the places ascend, from `low` on, and rows have the keys of their places
abbrev pub AreOrdered : {A : Type 0} → (A → ℕ) → ℕ → List (Place A) → Type 0
AreOrdered key low [] = Unit {0}
AreOrdered key low (p ∷ ps) = (low ≤ p.key) × IsUnder key p.key p.row × AreOrdered key (p.key + 1) ps

-- how many places have no row
abbrev pub count_empty : {A : Type 0} → List (Place A) → ℕ
count_empty ps = count_by (λ p. is_none p.row) ps

-- the places of a table are right: their keys ascend, rows have the keys of their places, and so many places are empty (own)
pub record ArePlaces {A : Type 0} (key : A → ℕ) (empty : ℕ) (places : List (Place A)) : Type 0 where
  pub ordered : AreOrdered key 0 places
  pub counted : count_empty places ≡ empty

-- how many places at the front have keys below k
abbrev pub count_below : {A : Type 0} → ℕ → List (Place A) → ℕ
count_below k [] = 0
count_below k (p ∷ ps) = if nat_lt p.key k then suc (count_below k ps) else 0

-- the place at i has the key
abbrev pub HasKey : {A : Type 0} → ℕ → List (Place A) → ℕ → Type 0
HasKey {A = A} k places i = (p : Place A) × (slice_get places i ≡ Some p) × (p.key ≡ k)

-- a place with the key would be at i, and there is none
abbrev pub IsFree : {A : Type 0} → ℕ → List (Place A) → ℕ → Type 0
IsFree {A = A} k places i = (i ≡ count_below k places) × ((p : Place A) → slice_get places i ≡ Some p → (p.key == k) ≡ false)

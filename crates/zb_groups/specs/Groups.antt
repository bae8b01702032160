-- Rows in the order in which they came, each in a group, and at a place.
use Rattle.std.specs.Prelude.{◌≡◌, ℕ, ◌==◌, List, map, filter, Bool, false, Some, IsTrue}
use Rattle.std.specs.BTreeSet.{BTreeSet}
use Rattle.std.specs.Option.{option_map_or}
use Rattle.zb_table.specs.Rows.{Ascend, row_at, are_below}
use Rattle.zb_pairs.specs.Pairs.{IsIndex}
use Rattle.zb_groups.specs.declared.held.Held.{Held}

-- the numbers of the rows in a group
abbrev pub numbers_in : {A : Type 0} → (A → ℕ) → ℕ → List (Held A) → List ℕ
numbers_in group_in group rows = map (λ h. h.number) (filter (λ h. group_in h.row == group) rows)

-- the row with a number is there, and passes
abbrev pub passes_at : {A : Type 0} → (A → Bool) → List (Held A) → ℕ → Bool
passes_at passes rows number = option_map_or (λ h. passes h.row) (row_at (λ h. h.number) number rows) false

-- what is kept is right: the numbers ascend below the next one, and that of each row is kept under its group and under its place (own)
pub record IsGrouped {A : Type 0} (group_in place_in : A → ℕ) (next : ℕ) (rows : List (Held A)) (groups places : BTreeSet (ℕ × ℕ)) : Type 0 where
  pub ascend : Ascend (λ h. h.number) 0 rows
  pub below : IsTrue (are_below (λ h. h.number) next rows)
  pub in_groups : IsIndex (λ h. h.number) (λ h. Some (group_in h.row)) rows groups
  pub at_places : IsIndex (λ h. h.number) (λ h. Some (place_in h.row)) rows places

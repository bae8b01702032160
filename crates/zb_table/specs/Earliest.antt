-- What comes first by a moment, then by a key.
use Rattle.std.specs.Prelude.{ℕ, ◌==◌, nat_lt, nat_le, List, filter, Bool, false, not, ◌&&◌, ◌||◌, Option, Some, None, if◌then◌else◌}
use Rattle.std.specs.Option.{option_map_or}
use Rattle.std.specs.List.{list_any}
use Rattle.zb_table.specs.Rows.{first_passing}

-- when something is due, and its key: it comes before another by the moment, and at the same moment by the key
abbrev pub is_earlier : (ℕ × ℕ) → (ℕ × ℕ) → Bool
is_earlier a b = nat_lt a.0 b.0 || ((a.0 == b.0) && nat_lt a.1 b.1)

-- the first member that none comes before
abbrev pub earliest : {A : Type 0} → (A → (ℕ × ℕ)) → List A → Option A
earliest place xs = first_passing (λ x. not (list_any (λ other. is_earlier (place other) (place x)) xs)) xs

-- of one and another one, if that is there, the earlier one; the first where neither comes before the other (own)
abbrev pub earlier_of : {A : Type 0} → (A → (ℕ × ℕ)) → A → Option A → Option A
earlier_of place x None = Some x
earlier_of place x (Some y) = if is_earlier (place y) (place x) then Some y else Some x

-- of two, if they are there, the earlier one; the first where neither comes before the other (own)
abbrev pub earlier_option : {A : Type 0} → (A → (ℕ × ℕ)) → Option A → Option A → Option A
earlier_option place None other = other
earlier_option place (Some x) other = earlier_of place x other

module _ {A : Type 0} (key : A → ℕ) (moment : A → Option ℕ) where
  -- the moment of a row, and its key
  abbrev pub place_in_time : A → ℕ × ℕ
  place_in_time row = (option_map_or (λ m. m) (moment row) 0, key row)

  -- a row has a moment, and it has come
  abbrev pub is_due : ℕ → A → Bool
  is_due now row = option_map_or (λ m. nat_le m now) (moment row) false

  -- of the rows that are due now the first by the moment, then by the key
  abbrev pub first_due : ℕ → List A → Option A
  first_due now rows = earliest place_in_time (filter (is_due now) rows)

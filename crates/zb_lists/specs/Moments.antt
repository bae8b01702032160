-- Pairs of a moment and a key, in order.
use Rattle.std.specs.Prelude.{◌≡◌, ℕ, ◌==◌, ◌&&◌, nat_le, List, [], ◌∷◌, Bool, false, if◌then◌else◌, Option, Some, None}
use Rattle.std.specs.List.{find, list_any}
use Rattle.std.specs.Option.{option_map_or}
use Rattle.zb_table.specs.Earliest.{is_earlier}
use Rattle.zb_pairs.specs.Pairs.{has_pair, is_number, is_row_under}

module _ {A : Type 0} (key : A → ℕ) (moment : A → Option ℕ) where
  -- the row with a key is there, and waits for this moment (own)
  abbrev pub is_waited_for : List A → ℕ → ℕ → Bool
  is_waited_for rows n k = is_row_under moment n (find (λ r. key r == k) rows)

  -- and it passes (own)
  abbrev pub is_passing : (A → Bool) → List A → ℕ → ℕ → Bool
  is_passing passes rows n k = option_map_or (λ r. is_number n (moment r) && passes r) (find (λ r. key r == k) rows) false

-- a pair is one of a list (own)
abbrev pub is_among : List (ℕ × ℕ) → ℕ → ℕ → Bool
is_among pairs n k = has_pair (record { keys = pairs }) n k

-- none of these pairs comes before one in front of it (own)
abbrev pub IsTimeOrdered : List (ℕ × ℕ) → Type 0
IsTimeOrdered [] = Unit {0}
IsTimeOrdered (p ∷ ps) = (list_any (λ o. is_earlier o p) ps ≡ false) × IsTimeOrdered ps

-- a pair, if its moment has come (own)
abbrev pub due_pair : ℕ → Option (ℕ × ℕ) → Option (ℕ × ℕ)
due_pair now None = None
due_pair now (Some p) = if nat_le p.0 now then Some p else None

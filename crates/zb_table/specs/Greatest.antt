-- The greatest of some numbers.
use Rattle.std.specs.Prelude.{ℕ, max, List, [], ◌∷◌, Option, Some, None}
use Rattle.std.specs.Option.{option_map_or}

-- the greatest of some numbers
abbrev pub greatest : List ℕ → Option ℕ
greatest [] = None
greatest (n ∷ ns) = Some (option_map_or (max n) (greatest ns) n)

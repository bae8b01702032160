-- The first answer that a list has.
use Rattle.std.specs.Prelude.{List, [], ◌∷◌, Option, None}
use Rattle.std.specs.Option.{option_or}

-- what the first member that tells something tells
abbrev pub first_told : {A B : Type 0} → (A → Option B) → List A → Option B
first_told tell [] = None
first_told tell (x ∷ xs) = option_or (tell x) (first_told tell xs)

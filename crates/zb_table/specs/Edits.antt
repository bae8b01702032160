-- Editing a list at its first member that passes a test.
use Rattle.std.specs.Prelude.{List, [], ◌∷◌, Bool, if◌then◌else◌, Option, Some, None, option_map}
use Rattle.std.specs.Option.{option_map_or}

-- with that member edited; None where none passes
abbrev pub edited : {A : Type 0} → (A → Bool) → (A → A) → List A → Option (List A)
edited passes edit [] = None
edited passes edit (x ∷ xs) = if passes x then Some (edit x ∷ xs) else option_map (λ ys. x ∷ ys) (edited passes edit xs)

-- without that member; None where none passes
abbrev pub removed : {A : Type 0} → (A → Bool) → List A → Option (List A)
removed passes [] = None
removed passes (x ∷ xs) = if passes x then Some xs else option_map (λ ys. x ∷ ys) (removed passes xs)

-- without the first member that passes, if one does
abbrev pub without_first : {A : Type 0} → (A → Bool) → List A → List A
without_first passes xs = option_map_or (λ ys. ys) (removed passes xs) xs

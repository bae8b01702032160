-- Where things stand in a list (own).
use Rattle.std.specs.Prelude.{ℕ, ◌+◌, List, [], ◌∷◌, Bool, if◌then◌else◌}

-- the places of the items that pass, in order, where the first item stands at this one (own)
abbrev pub places_from : {A : Type 0} → ℕ → (A → Bool) → List A → List ℕ
places_from first p [] = []
places_from first p (x ∷ xs) = if p x then first ∷ places_from (first + 1) p xs else places_from (first + 1) p xs

-- the places of the items that pass, in order; the first item of the list stands at 0 (own)
abbrev pub places : {A : Type 0} → (A → Bool) → List A → List ℕ
places p xs = places_from 0 p xs

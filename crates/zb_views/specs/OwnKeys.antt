-- Things of which no two have one key.
use Rattle.std.specs.Prelude.{◌≡◌, ℕ, ◌==◌, List, [], ◌∷◌, None}
use Rattle.std.specs.List.{find}

-- no two of these have one key (own)
abbrev pub HaveOwnKeys : {A : Type 0} → (A → ℕ) → List A → Type 0
HaveOwnKeys key [] = Unit {0}
HaveOwnKeys key (x ∷ xs) = (find (λ y. key y == key x) xs ≡ None) × HaveOwnKeys key xs

-- Members of lists by their numbers.
use Rattle.std.specs.Prelude.{◌≡◌, ◌≤◌, ◌-◌, ℕ, suc, List, [], ◌∷◌, slice_get, Some}

-- R holds of the members at each place, and of the place's number, where the first has the number n
abbrev pub EachFrom : {A B : Type 0} → (ℕ → A → B → Type 0) → ℕ → List A → List B → Type 0
EachFrom R n [] [] = Unit {0}
EachFrom R n (x ∷ xs) (y ∷ ys) = R n x y × EachFrom R (suc n) xs ys
EachFrom R n [] (y ∷ ys) = ⊥
EachFrom R n (x ∷ xs) [] = ⊥

-- the member with this number, from 1, has P
abbrev pub OfNumber : {A : Type 0} → List A → ℕ → (A → Type 0) → Type 0
OfNumber {A} members number P = (member : A) × (1 ≤ number) × (slice_get members (number - 1) ≡ Some member) × P member

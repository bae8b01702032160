-- How bytes begin.
use Rattle.std.specs.Prelude.{◌≡◌, ℕ, List, length, take}

-- the bytes begin with a front
pub record Begins (front bytes : List ℕ) : Type 0 where
  pub front_of : take (length front) bytes ≡ front

-- whatever the bytes before began with, those after begin with it too
abbrev pub Keeps : List ℕ → List ℕ → Type 0
Keeps before after = (front : List ℕ) → Begins front before → Begins front after

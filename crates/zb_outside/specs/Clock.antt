-- Clocks as plain data.
use Rattle.std.specs.Prelude.{◌≡◌, ◌+◌, ◌-◌, ℕ, List, [], ◌∷◌, min, length, slice_index}

-- the moments that a clock over this list may read: those of the list, or the start of 1970 alone
abbrev pub clock_moments : List ℕ → List ℕ
clock_moments [] = 0 ∷ []
clock_moments (moment ∷ moments) = moment ∷ moments

-- what a clock over this list reads after so many readings: the moments in order, then the last one again and again
abbrev pub told_at : List ℕ → ℕ → ℕ
told_at moments readings = slice_index (clock_moments moments) (min readings (length (clock_moments moments) - 1))

-- a clock went on by some number of readings, by what it was to read and what it is to read now
abbrev pub HasGoneOn : (old new : ℕ → ℕ) → Type 0
HasGoneOn old new = (readings : ℕ) × ((k : ℕ) → new k ≡ old (k + readings))

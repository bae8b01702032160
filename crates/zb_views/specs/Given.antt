-- The messages that a subscription was given, as they are kept.
use Rattle.std.specs.Prelude.{◌≡◌, ℕ, ◌==◌, List}
use Rattle.std.specs.List.{list_any}
use Rattle.std.specs.BTreeSet.{BTreeSet, contains}
use Rattle.std.specs.Ordering.{nat_cmp}

-- the same keys are in the list and in the set (own)
abbrev pub IsGiven : List ℕ → BTreeSet ℕ → Type 0
IsGiven keys known = (message : ℕ) → contains nat_cmp known message ≡ list_any (λ key. key == message) keys

-- What stands at a gate.
use Rattle.std.specs.Prelude.{◌≡◌, ◌≢◌, ◌<◌, ◌≤◌, ◌+◌, ℕ, List, length, slice_index}
use Rattle.zb_store.specs.declared.step.Step.{Step}
use Rattle.zb_store.specs.declared.step.Step.TheVariants.{Closed, Cut, Next}
use Rattle.zb_store.specs.Stands.{next_gate, RunsPast}

-- what stands at the gate at `at`: it is closed, its frame runs past the end, or there is a next gate
abbrev pub IsAtGate : List ℕ → ℕ → Step → Type 0
IsAtGate file at Closed = slice_index file at ≡ 0
IsAtGate file at Cut = RunsPast file at
IsAtGate file at (Next next) = (slice_index file at ≢ 0) × (next ≡ next_gate file at)
    × (next < length file)

-- a next gate is behind this one and inside the file
abbrev pub LiesBehind : ℕ → ℕ → Step → Type 0
LiesBehind at end Closed = Unit {0}
LiesBehind at end Cut = Unit {0}
LiesBehind at end (Next next) = (at + 9 ≤ next) × (next < end)

-- these bytes are those of the file from `at` on
abbrev pub AreFrom : List ℕ → ℕ → List ℕ → Type 0
AreFrom file at bytes = (k : ℕ) → k < length bytes → slice_index bytes k ≡ slice_index file (at + k)

-- Bytes of a file that were read.
use Rattle.std.specs.Prelude.{◌≡◌, ◌<◌, ◌≤◌, ◌+◌, ℕ, List, take, drop}
use Rattle.zb_store.specs.declared.window.Window.{Window}
use Rattle.zb_store.specs.declared.step.Step.{Step}
use Rattle.zb_store.specs.declared.step.Step.TheVariants.{Closed, Cut, Next}

-- a window holds bytes of this file, from where it starts on
abbrev pub IsPieceOf : List ℕ → Window → Type 0
IsPieceOf file window = take window.filled window.bytes.items ≡ take window.filled
    (drop window.start file)

-- it holds so many bytes from `at` on, or all that there are
pub record Holds (at size : ℕ) (window : Window) : Type 0 where
  pub begins : window.start ≤ at
  pub some : at < window.start + window.filled
  pub enough : window.start + window.filled < at + size → window.start + window.filled ≡ window.end

-- it holds what is between the gate at `at` and the next one
abbrev pub HoldsFrame : ℕ → Window → Step → Type 0
HoldsFrame at window Closed = Unit {0}
HoldsFrame at window Cut = Unit {0}
HoldsFrame at window (Next next) = (window.start ≤ at) × (next ≤ window.start + window.filled)

-- Why a call of a stream may be refused.
use Rattle.std.specs.Prelude.{◌≡◌, ◌<◌, ℕ, ◌≤◌, ◌-◌, ◌^◌, Bool, IsTrue, Result, Ok, Err, IsErrOf}
use Rattle.zb_outside.specs.declared.trouble.Trouble.{Trouble}
use Rattle.zb_outside.specs.declared.trouble.Trouble.TheVariants.{Failed, Memory}

-- a count of faults rose, or stands at the end of its type, where it stays
abbrev pub StreamFaultsRose : ℕ → ℕ → Type 0
StreamFaultsRose before now = now < 2 ^ 64 - 1 → before < now

-- what holds of a call unless it failed
abbrev pub UnlessStreamFailed : {T : Type 0} → Result T Trouble → Type 0 → Type 0
UnlessStreamFailed (Ok value) P = P
UnlessStreamFailed (Err Failed) P = Unit {0}
UnlessStreamFailed (Err Memory) P = P

-- `Failed` is told only where the count of faults rose, and `Memory` only by a stream that takes memory; where the
-- stream counts nothing but failures, no other call raises the count
pub record HasStreamCause {T : Type 0} (counts_failures takes_memory : Bool) (before now : ℕ) (result : Result T Trouble) : Type 0 where
  pub later : before ≤ now
  pub failed : IsErrOf result Failed → StreamFaultsRose before now
  pub memory : IsErrOf result Memory → IsTrue takes_memory
  pub steady : IsTrue counts_failures → UnlessStreamFailed result (now ≡ before)

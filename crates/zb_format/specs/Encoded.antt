-- What an encoder has, before and after bytes are added.
use Rattle.std.specs.Prelude.{◌≡◌, ℕ, ◌+◌, ◌-◌, ◌^◌, min, List, ◌++◌, length}
use Rattle.zb_format.specs.Front as fronts
use Rattle.zb_format.specs.declared.encoder.Encoder.{Encoder}
use Rattle.zb_format.specs.declared.encoder.Encoder.TheVariants.{Bytes, Count}

-- a piece was added: it stands behind what was there, or is counted, as far as a count goes
unfoldable pub Adds : Encoder → List ℕ → Encoder → Type 0
Adds (Bytes before) piece (Bytes after) = after.items ≡ before.items ++ piece
Adds (Count before) piece (Count after) = after ≡ min (before + length piece) (2 ^ 64 - 1)
Adds (Bytes before) piece (Count after) = ⊥
Adds (Count before) piece (Bytes after) = ⊥

-- it holds bytes that begin with this front, which one that only counts doesn't
unfoldable pub HoldsFront : List ℕ → Encoder → Type 0
HoldsFront front (Bytes bytes) = fronts.Begins front bytes.items
HoldsFront front (Count count) = ⊥

-- it only counts, which no want of memory stops
unfoldable pub IsCounting : Encoder → Type 0
IsCounting (Bytes bytes) = ⊥
IsCounting (Count count) = Unit {0}

-- whatever it held before it holds still, and it counts where it counted
abbrev pub KeepsEncoded : Encoder → Encoder → Type 0
KeepsEncoded before after = ((front : List ℕ) → HoldsFront front before → HoldsFront front after) × (IsCounting before → IsCounting after)

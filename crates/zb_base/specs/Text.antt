-- Where the bytes of a text stand.
use Rattle.std.specs.Prelude.{ℕ, List, take, ◌≤◌}
use Rattle.std.specs.Str.{IsUtf8}
use Rattle.std.specs.String.{string_bytes}
use Rattle.zb_base.specs.declared.text.Kept.{Kept}
use Rattle.zb_base.specs.declared.text.Kept.TheVariants as kinds

-- the bytes of a text, wherever they stand
abbrev pub bytes_kept : Kept → List ℕ
bytes_kept (kinds.InPlace size bytes) = take size bytes
bytes_kept (kinds.Apart text) = string_bytes text.value

-- the bytes that stand in their place fit there, and are UTF-8
abbrev pub IsWellKept : Kept → Type 0
IsWellKept (kinds.InPlace size bytes) = (size ≤ 16) × IsUtf8 (take size bytes)
IsWellKept (kinds.Apart text) = Unit {0}

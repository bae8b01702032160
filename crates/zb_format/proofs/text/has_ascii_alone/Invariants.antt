use Rattle.std.proofs.Common.{ℕ, ◌<◌, slice_index}
use Rattle.zb_format.proofs.text.has_ascii_alone.Given as goal

-- the bytes so far are ASCII
abbrev pub invariant-loop-byte : goal.invariant-loop-byte
invariant-loop-byte l = (i : ℕ) → i < l.byte-index → slice_index l.bytes i < 128

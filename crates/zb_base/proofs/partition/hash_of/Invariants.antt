use Rattle.std.proofs.Common.{◌≡◌, take}
use Rattle.zb_base.specs.Key.{hash_of}
use Rattle.zb_base.proofs.partition.hash_of.Given as goal

-- the hash of the bytes so far
abbrev pub invariant-loop-byte : goal.invariant-loop-byte
invariant-loop-byte l = l.hash ≡ hash_of (take l.byte-index l.bytes)

use Rattle.std.proofs.Common.{Contains, take}
use Rattle.zb_same.proofs.lists.is_among.Given as goal

-- it isn't among the items so far
abbrev pub invariant-loop-item : goal.invariant-loop-item
invariant-loop-item g l = Contains (take l.item-index l.items) l.sought → ⊥

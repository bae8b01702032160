use Rattle.std.proofs.Common.{◌≡◌, take}
use Rattle.zb_arrivals.proofs.copies.copy_of.Given as goal

-- the items so far are copied
abbrev pub invariant-loop-item : goal.invariant-loop-item
invariant-loop-item g l = l.copy ≡ take l.item-index l.items

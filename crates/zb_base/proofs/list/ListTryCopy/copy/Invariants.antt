use Rattle.std.proofs.Common.{◌≡◌, take}
use Rattle.zb_base.proofs.list.ListTryCopy.copy.Given as goal

-- what is copied so far
abbrev pub invariant-loop-item : goal.invariant-loop-item
invariant-loop-item g l = l.items.items ≡ take l.item-index l.item-items

use Rattle.std.proofs.Common.{◌≡◌, take}
use Rattle.zb_same.proofs.lists.are_same.Given as goal

-- the items so far are the same
abbrev pub invariant-loop-place : goal.invariant-loop-place
invariant-loop-place g l = take l.place l.these ≡ take l.place l.those

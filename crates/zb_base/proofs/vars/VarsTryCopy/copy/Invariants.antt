use Rattle.std.proofs.Common.{◌≡◌, take}
use Rattle.zb_base.proofs.vars.VarsTryCopy.copy.Given as goal

-- what is copied so far
abbrev pub invariant-loop-variable : goal.invariant-loop-variable
invariant-loop-variable l = l.items.items ≡ take l.variable-index l.variable-items

use Rattle.std.proofs.Common.{◌≡◌, drop}
use Rattle.zb_base.specs.Vars.{is_ascending}
use Rattle.zb_base.proofs.vars.ascends.Given as goal

-- what is left decides
abbrev pub invariant-loop-index : goal.invariant-loop-index
invariant-loop-index l = is_ascending l.variables ≡ is_ascending (drop l.index l.variables)

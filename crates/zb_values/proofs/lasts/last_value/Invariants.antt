use Rattle.std.proofs.Common.{◌≡◌, [], take}
use Rattle.std.specs.Option.{option_copied}
use Rattle.zb_base.specs.Vars.{value_named}
use Rattle.zb_tokens.specs.Catches.{set_over}
use Rattle.zb_values.proofs.lasts.last_value.Given as goal

-- the value that the name has once the variables so far are set
abbrev pub invariant-loop-variable : goal.invariant-loop-variable
invariant-loop-variable l = option_copied l.found ≡ value_named l.name (set_over (take l.variable-index l.variables) [])

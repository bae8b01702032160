use Rattle.std.proofs.Common.{◌≡◌}
use Rattle.serde_json.specs.View.{members_view}
use Rattle.zb_wire.specs.Variables as spec
use Rattle.zb_wire.proofs.variables.all_variables.Given as goal

-- the members that are left decide
abbrev pub invariant-loop-value : goal.invariant-loop-value
invariant-loop-value l = spec.all_variables (members_view l.members.entries) ≡ spec.all_variables (members_view l.value-iterator)

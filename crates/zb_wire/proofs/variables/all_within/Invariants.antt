use Rattle.std.proofs.Common.{◌≡◌}
use Rattle.std.specs.Prelude.{is_some}
use Rattle.serde_json.specs.View.{members_view}
use Rattle.zb_wire.specs.Variables as spec
use Rattle.zb_wire.proofs.variables.all_within.Given as goal

-- the members that are left decide
abbrev pub invariant-loop-name : goal.invariant-loop-name
invariant-loop-name l = is_some (spec.variables_of (members_view l.members.entries)) ≡ is_some (spec.variables_of (members_view l.name-iterator))

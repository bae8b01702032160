use Rattle.std.proofs.Common.{◌≡◌, ◌++◌}
use Rattle.std.specs.Prelude.{option_map}
use Rattle.serde_json.specs.View.{members_view}
use Rattle.zb_wire.specs.Variables as spec
use Rattle.zb_wire.proofs.variables.variables_of.Given as goal

-- the variables so far, and then those of the members that are left
abbrev pub invariant-loop-name : goal.invariant-loop-name
invariant-loop-name l = spec.variables_of (members_view l.members.entries) ≡ option_map (λ vs. l.variables ++ vs) (spec.variables_of (members_view l.name-iterator))

use Rattle.std.proofs.Common.{◌≡◌}
use Rattle.std.specs.Prelude.{map}
use Rattle.serde_json.specs.View.{members_view}
use Rattle.zb_reader.specs.Rows as spec
use Rattle.zb_reader.proofs.placing.unknown_place.Given as goal

-- the members that are left decide
abbrev pub invariant-loop-name : goal.invariant-loop-name
invariant-loop-name l = spec.unknown_place (map spec.row_of l.rows) (members_view l.members.entries) ≡ spec.unknown_place (map spec.row_of l.rows) (members_view l.name-iterator)

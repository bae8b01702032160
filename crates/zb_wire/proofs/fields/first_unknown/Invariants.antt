use Rattle.std.proofs.Common.{◌≡◌, drop}
use Rattle.std.specs.Prelude.{map}
use Rattle.zb_wire.specs.Fields as spec
use Rattle.zb_wire.specs.Listed.{members_listed}
use Rattle.zb_wire.specs.Reading.{field_of}
use Rattle.zb_wire.proofs.fields.first_unknown.Given as goal

-- the members that are left decide
abbrev pub invariant-loop-member : goal.invariant-loop-member
invariant-loop-member l = spec.first_unknown (map field_of l.fields) (members_listed l.members) ≡ spec.first_unknown (map field_of l.fields) (members_listed (drop l.member-index l.members))

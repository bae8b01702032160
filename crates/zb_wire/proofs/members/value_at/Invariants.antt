use Rattle.std.proofs.Common.{◌≡◌, drop}
use Rattle.serde_json.specs.Find.{get_member}
use Rattle.zb_wire.specs.Listed.{members_listed}
use Rattle.zb_wire.proofs.members.value_at.Given as goal

-- the members that are left decide
abbrev pub invariant-loop-member : goal.invariant-loop-member
invariant-loop-member l = get_member l.name (members_listed l.members) ≡ get_member l.name (members_listed (drop l.member-index l.members))

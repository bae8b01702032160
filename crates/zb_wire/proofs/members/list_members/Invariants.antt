use Rattle.std.proofs.Common.{◌≡◌}
use Rattle.serde_json.specs.View.{members_view}
use Rattle.zb_wire.specs.Listed.{members_then}
use Rattle.zb_wire.proofs.members.list_members.Given as goal

-- the members so far, and then those that are left
abbrev pub invariant-loop-name : goal.invariant-loop-name
invariant-loop-name l = members_view l.members.entries ≡ members_then l.listed.items (members_view l.name-iterator)

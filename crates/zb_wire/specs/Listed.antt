-- The object that a list of members is.
use Rattle.std.specs.Prelude.{List, [], ◌∷◌}
use Rattle.serde_json.specs.Data.{Data, object, Members, no_members, member}
use Rattle.serde_json.specs.View.{view}
use Rattle.zb_wire.specs.declared.members.Member.{Member}

-- the members of a list, and then these
abbrev pub members_then : List Member → Members → Members
members_then [] rest = rest
members_then (m ∷ ms) rest = member m.name.now (view m.value.now) (members_then ms rest)

-- the members of a list
abbrev pub members_listed : List Member → Members
members_listed ms = members_then ms no_members

-- the object that has the members of a list
abbrev pub object_of : List Member → Data
object_of ms = object (members_listed ms)

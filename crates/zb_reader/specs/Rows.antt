-- The fields of an object as rows of a table, and where an object fails by them.
use Rattle.std.specs.Prelude.{ℕ, ◌==◌, List, [], ◌∷◌, map, Bool, true, false, not, ◌&&◌, nat_le, is_some, if◌then◌else◌, Option, Some, None}
use Rattle.std.specs.Option.{option_map_or, option_or}
use Rattle.std.specs.List.{list_any, count_by}
use Rattle.std.specs.Str.{bytes_eq}
use Rattle.serde_json.specs.Data.{Data, Members, no_members, member}
use Rattle.serde_json.specs.Find.{get, as_object}
use Rattle.zb_reader.specs.Place.{behind, here_unless}
use Rattle.zb_reader.specs.declared.table.Content.{Content}
use Rattle.zb_reader.specs.declared.table.Row.{Row}
use Rattle.zb_reader.specs.declared.table.Row.TheVariants as rows
use Rattle.zb_reader.specs.declared.table.Choice.{Choice}
use Rattle.zb_reader.specs.declared.table.Choice.TheVariants as choices
use Rattle.zb_reader.specs.declared.table.Shape.{Shape}

-- a field: its name, whether an object must have it, whether it is one of those of the object's choice, and what it holds
pub record RowRule : Type 0 where
  pub name : List ℕ
  pub needed : Bool
  pub chosen : Bool
  pub content : Content

-- a field that an object must have
abbrev pub must_have : List ℕ → Content → RowRule
must_have name content = record { name = name; needed = true; chosen = false; content = content }

-- a field that an object may have
abbrev pub may_have : List ℕ → Content → RowRule
may_have name content = record { name = name; needed = false; chosen = false; content = content }

-- one of the fields among which an object's choice is
abbrev pub may_choose : List ℕ → Content → RowRule
may_choose name content = record { name = name; needed = false; chosen = true; content = content }

-- the fields of an object, in order, and its choice
pub record ShapeRule : Type 0 where
  pub rows : List RowRule
  pub choice : Choice

-- a field of the code's table
abbrev pub row_of : Row → RowRule
row_of (rows.Must name content) = must_have name.now content
row_of (rows.May name content) = may_have name.now content
row_of (rows.OneOf name content) = may_choose name.now content

-- the fields of an object in the code's table
abbrev pub shape_in : Shape → ShapeRule
shape_in s = record { rows = map row_of s.rows.now; choice = s.choice }

-- a field is one of those of the choice, and there
abbrev pub is_chosen : Data → RowRule → Bool
is_chosen d r = r.chosen && is_some (get r.name d)

-- a choice is met by so many
abbrev pub is_met : Choice → ℕ → Bool
is_met choices.Free n = true
is_met choices.AtMostOne n = nat_le n 1
is_met choices.One n = n == 1

-- where an object fails at a field; a field that is missing fails at its own place
abbrev pub place_at : (Content → Data → Option (List ℕ)) → Data → RowRule → Option (List ℕ)
place_at inner d r = behind r.name (option_map_or (inner r.content) (get r.name d) (here_unless (not r.needed)))

-- where it fails at the first of some fields
abbrev pub first_place : (Content → Data → Option (List ℕ)) → Data → List RowRule → Option (List ℕ)
first_place inner d [] = None
first_place inner d (r ∷ rs) = option_or (place_at inner d r) (first_place inner d rs)

-- one of the fields has this name
abbrev pub has_row : List RowRule → List ℕ → Bool
has_row rs name = list_any (λ r. bytes_eq name r.name) rs

-- the first member, in byte order, that is none of the fields
abbrev pub unknown_place : List RowRule → Members → Option (List ℕ)
unknown_place rs no_members = None
unknown_place rs (member name d ms) = if has_row rs name then unknown_place rs ms else behind name (Some [])

-- an object fails as a whole where its choice isn't met; else at the first of its fields, and then at its first unknown
-- member; what is no object fails as a whole
abbrev pub place_in_object : (Content → Data → Option (List ℕ)) → ShapeRule → Data → Option (List ℕ)
place_in_object inner shape d =
    option_map_or (λ ms. option_or (here_unless (is_met shape.choice (count_by (is_chosen d) shape.rows)))
    (option_or (first_place inner d shape.rows) (unknown_place shape.rows ms))) (as_object d) (Some [])

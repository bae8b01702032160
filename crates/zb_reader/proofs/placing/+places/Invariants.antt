use Rattle.std.proofs.Common.{◌≡◌, ◌+◌, ◌*◌, drop}
use Rattle.std.specs.Prelude.{map}
use Rattle.serde_json.specs.View.{view, items_view}
use Rattle.zb_reader.specs.Place as places
use Rattle.zb_reader.specs.Rows as spec
use Rattle.zb_reader.specs.Shapes.{place_in_content, place_in_part}
use Rattle.zb_reader.proofs.placing.+places.Given as goal

abbrev pub decreases-place_in_part : goal.decreases-place_in_part
decreases-place_in_part a = 6 * a.levels

abbrev pub decreases-place_in_object : goal.decreases-place_in_object
decreases-place_in_object a = 6 * a.room + 5

abbrev pub decreases-first_place : goal.decreases-first_place
decreases-first_place a = 6 * a.room + 4

abbrev pub decreases-place_at : goal.decreases-place_at
decreases-place_at a = 6 * a.room + 3

abbrev pub decreases-place_in_content : goal.decreases-place_in_content
decreases-place_in_content a = 6 * a.room + 2

abbrev pub decreases-place_in_items : goal.decreases-place_in_items
decreases-place_in_items a = 6 * a.room + 1

-- the fields that are left decide
abbrev pub invariant-first_place-loop-row : goal.invariant-first_place-loop-row
invariant-first_place-loop-row l = spec.first_place (place_in_content (place_in_part l.room)) (view l.value) (map spec.row_of l.rows) ≡ spec.first_place (place_in_content (place_in_part l.room)) (view l.value) (map spec.row_of (drop l.row-index l.rows))

-- the items that are left decide
abbrev pub invariant-place_in_items-loop-index : goal.invariant-place_in_items-loop-index
invariant-place_in_items-loop-index l = places.place_from (place_in_part l.room l.part) 0 (items_view l.items) ≡ places.place_from (place_in_part l.room l.part) l.index (items_view (drop l.index l.items))

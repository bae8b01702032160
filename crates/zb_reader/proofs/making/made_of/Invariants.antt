use Rattle.std.proofs.Common.{◌≡◌, ◌++◌, drop}
use Rattle.serde_json.specs.View.{items_view}
use Rattle.zb_reader.specs.Layout as spec
use Rattle.zb_reader.proofs.making.made_of.Given as goal

-- what was made so far, and then of the items that are left
abbrev pub invariant-loop-item : goal.invariant-loop-item
invariant-loop-item g l = spec.made_of g.F.FromJson.made (items_view l.items) ≡ l.list ++ spec.made_of g.F.FromJson.made (items_view (drop l.item-index l.items))

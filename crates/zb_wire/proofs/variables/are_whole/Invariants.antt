use Rattle.std.proofs.Common.{◌≡◌, drop}
use Rattle.serde_json.specs.View.{items_view}
use Rattle.zb_wire.specs.Variables as spec
use Rattle.zb_wire.proofs.variables.are_whole.Given as goal

-- the items that are left decide
abbrev pub invariant-loop-item : goal.invariant-loop-item
invariant-loop-item l = spec.are_whole (items_view l.items) ≡ spec.are_whole (items_view (drop l.item-index l.items))

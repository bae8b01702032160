use Rattle.std.proofs.Common.{◌≡◌, ◌++◌, drop}
use Rattle.std.specs.Prelude.{option_map}
use Rattle.serde_json.specs.View.{items_view}
use Rattle.zb_wire.specs.Variables as spec
use Rattle.zb_wire.proofs.variables.list_of.Given as goal

-- the numbers so far, and then those of the items that are left
abbrev pub invariant-loop-item : goal.invariant-loop-item
invariant-loop-item l = spec.numbers_of (items_view l.items) ≡ option_map (λ zs. l.numbers ++ zs) (spec.numbers_of (items_view (drop l.item-index l.items)))

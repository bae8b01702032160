use Rattle.std.proofs.Common.{◌≡◌, drop, filter}
use Rattle.std.specs.List.{list_any}
use Rattle.zb_faults.specs.Elements.{is_boundary_of}
use Rattle.zb_places.specs.Places.{held_tokens}
use Rattle.zb_game.specs.Searches.{interrupts_among}
use Rattle.zb_game.proofs.halt.is_interrupted_in.Given as goal

-- what is asked of the boundary events that are left
abbrev pub invariant-loop-number : goal.invariant-loop-number
invariant-loop-number l = list_any (interrupts_among l.cell.scope (held_tokens l.tokens)) (drop l.number-index (filter (is_boundary_of l.cell.node) l.model.nodes))
    ≡ list_any (interrupts_among l.cell.scope (held_tokens l.tokens)) (filter (is_boundary_of l.cell.node) l.model.nodes)

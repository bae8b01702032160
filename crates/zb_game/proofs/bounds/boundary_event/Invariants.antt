use Rattle.std.proofs.Common.{◌≡◌, drop, filter}
use Rattle.std.specs.List.{find}
use Rattle.zb_faults.specs.Elements.{is_boundary_of}
use Rattle.zb_game.proofs.bounds.boundary_event.Given as goal

-- what is asked of the boundary events that are left
abbrev pub invariant-loop-number : goal.invariant-loop-number
invariant-loop-number g l = find (g.Q.Query.passes l.query) (drop l.number-index (filter (is_boundary_of l.id) l.model.nodes)) ≡ find (g.Q.Query.passes l.query) (filter (is_boundary_of l.id) l.model.nodes)

use Rattle.std.proofs.Common.{◌≡◌, ◌++◌, Some, drop, filter, map, slice_get}
use Rattle.zb_tokens.specs.Catches.{leads_from}
use Rattle.zb_values.proofs.awaited.add_behind.Given as goal

-- the nodes with the numbers so far, and those of the nodes that are left
abbrev pub invariant-loop-number : goal.invariant-loop-number
invariant-loop-number l = map (slice_get l.model.nodes) l.numbers ++ map Some (filter (λ n. leads_from l.model l.origin n.id) (drop l.number l.model.nodes))
    ≡ map (slice_get l.model.nodes) l.fn.numbers ++ map Some (filter (λ n. leads_from l.model l.origin n.id) l.model.nodes)

use Rattle.std.proofs.Common.{◌≡◌, List, Some, drop, map, slice_get}
use Rattle.zb_process.specs.declared.model.Node.{Node}
use Rattle.zb_tokens.specs.Catches.{openings_in}
use Rattle.zb_values.proofs.OpeningLemmas.{behind}
use Rattle.zb_values.proofs.catches.openings_in.Given as goal

-- what opens so far, and then at the nodes that are left
abbrev pub invariant-loop-number : goal.invariant-loop-number
invariant-loop-number g l = (nodes : List Node) → map (slice_get l.model.nodes) l.numbers ≡ map Some nodes
    → behind l.openings (openings_in (g.E.Env.values l.env) l.moment l.model (drop l.number-index nodes)) ≡ openings_in (g.E.Env.values l.env) l.moment l.model nodes

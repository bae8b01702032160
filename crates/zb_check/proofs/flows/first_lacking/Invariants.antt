use Rattle.std.proofs.Common.{◌≡◌, drop}
use Rattle.std.specs.List.{find}
use Rattle.zb_faults.specs.Faults.{lacks_alternatives}
use Rattle.zb_check.proofs.flows.first_lacking.Given as goal

-- none so far lacks them
abbrev pub invariant-loop-node : goal.invariant-loop-node
invariant-loop-node l = find (lacks_alternatives l.parts) (drop l.node-index l.nodes) ≡ find (lacks_alternatives l.parts) l.nodes

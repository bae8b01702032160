use Rattle.std.proofs.Common.{◌≡◌, drop}
use Rattle.std.specs.List.{find}
use Rattle.zb_check.specs.Finding.{is_found_node}
use Rattle.zb_check.proofs.finding.first_node.Given as goal

-- the test finds none so far
abbrev pub invariant-loop-node : goal.invariant-loop-node
invariant-loop-node l = find (is_found_node l.test l.parts) (drop l.node-index l.nodes) ≡ find (is_found_node l.test l.parts) l.nodes

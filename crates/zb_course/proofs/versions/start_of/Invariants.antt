use Rattle.std.proofs.Common.{◌≡◌, ◌&&◌, [], bytes_eq, drop}
use Rattle.std.specs.List.{find}
use Rattle.zb_faults.specs.Elements.{is_start}
use Rattle.zb_process.specs.declared.model.Node.{Node}
use Rattle.zb_course.proofs.versions.start_of.Given as goal

-- no node so far is the start event at the top
abbrev pub invariant-loop-node : goal.invariant-loop-node
invariant-loop-node l = find (λ (n : Node). is_start n.kind && bytes_eq n.parent []) (drop l.node-index l.model.nodes) ≡ find (λ n. is_start n.kind && bytes_eq n.parent []) l.model.nodes

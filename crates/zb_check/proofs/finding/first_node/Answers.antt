use Rattle.std.proofs.Common.{sym, ap, ◌∙◌}
use Rattle.std.specs.List.{find}
use Rattle.std.specs.Option.{option_map}
use Rattle.zb_process.specs.declared.model.Node.{Node}
use Rattle.zb_check.specs.Finding.{is_found_node}
use Rattle.zb_check.proofs.LookLemmas.{first_here, first_later}
use Rattle.zb_check.proofs.finding.first_node.Goals as goal

pub returns-then-is_found_node : goal.returns-then-is_found_node
returns-then-is_found_node c =
    let p = is_found_node c.args.test c.args.parts.now in
    ap (option_map (λ (x : Node). x.id))
    (sym (first_here p c.nodes-nodes.result.now c.loop-node.node-index c.node-item.result c.is_found_node.result c.loop-node-test.true c.node-item.is c.is_found_node.ensures c.if-is_found_node.true)
    ∙ (c.loop-node.invariant ∙ ap (find p) c.nodes-nodes.ensures))

pub loop-node-preserved : goal.loop-node-preserved
loop-node-preserved c =
    let p = is_found_node c.args.test c.args.parts.now in
    sym (first_later p c.nodes-nodes.result.now c.loop-node.node-index c.node-item.result c.is_found_node.result c.loop-node-test.true c.node-item.is c.is_found_node.ensures c.if-is_found_node.false) ∙ c.loop-node.invariant

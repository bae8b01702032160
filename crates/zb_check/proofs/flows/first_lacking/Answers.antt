use Rattle.std.proofs.Common.{sym, ap, ◌∙◌}
use Rattle.std.specs.List.{find}
use Rattle.std.specs.Option.{option_map}
use Rattle.zb_process.specs.declared.model.Node.{Node}
use Rattle.zb_faults.specs.Faults.{lacks_alternatives}
use Rattle.zb_check.proofs.LookLemmas.{first_here, first_later}
use Rattle.zb_check.proofs.flows.first_lacking.Goals as goal

pub returns-then-lacks_alternatives : goal.returns-then-lacks_alternatives
returns-then-lacks_alternatives c =
    let p = lacks_alternatives c.args.parts.now in
    ap (option_map (λ (x : Node). x.id))
    (sym (first_here p c.nodes-nodes.result.now c.loop-node.node-index c.node-item.result c.lacks_alternatives.result c.loop-node-test.true c.node-item.is c.lacks_alternatives.ensures c.if-lacks_alternatives.true)
    ∙ (c.loop-node.invariant ∙ ap (find p) c.nodes-nodes.ensures))

pub loop-node-preserved : goal.loop-node-preserved
loop-node-preserved c =
    let p = lacks_alternatives c.args.parts.now in
    sym (first_later p c.nodes-nodes.result.now c.loop-node.node-index c.node-item.result c.lacks_alternatives.result c.loop-node-test.true c.node-item.is c.lacks_alternatives.ensures c.if-lacks_alternatives.false) ∙ c.loop-node.invariant

use Rattle.std.proofs.Common.{arith}
use Rattle.std.proofs.lemmas.Grind.{common_steps}
use Rattle.zb_check.proofs.BehindLemmas.{depth_within}
use Rattle.zb_check.proofs.scopes.is_deep.Goals as goal

pub overflow_add-depth : goal.overflow_add-depth
overflow_add-depth c =
    let parent = c.node-item.result.parent in
    let bound = depth_within c.args.nodes.now c.loop-node.node-index parent in
    let noted = c.loop-node.invariant.0 parent in
    grind (arith, common_steps, bound, noted)

use Rattle.std.proofs.Common.{◌≡◌, true, false, filter, refl, arith, rules}
use Rattle.zb_faults.specs.Elements.{is_boundary_of}
use Rattle.zb_values.proofs.AwaitedLemmas.{names_item, named_left}
use Rattle.zb_game.proofs.bounds.boundary_event.Goals as goal

pub node-node-requires : goal.node-node-requires
node-node-requires g c =
    let events = filter (is_boundary_of c.args.id.now) c.args.model.now.nodes in
    names_item c.args.model.now.nodes events c.bounds_of-number-items.result.now (search rules) c.loop-number.number-index (omega arith)

pub returns-then-passes : goal.returns-then-passes
returns-then-passes g c =
    let events = filter (is_boundary_of c.args.id.now) c.args.model.now.nodes in
    let left = named_left c.args.model.now.nodes events c.bounds_of-number-items.result.now (search rules) c.loop-number.number-index (omega arith) c.node-node.result.now c.node-node.ensures in
    let is : g.Q.Query.passes c.args.query.now c.node-node.result.now ≡ true = search rules in
    rw (← c.loop-number.invariant, left, is) refl

pub loop-number-preserved : goal.loop-number-preserved
loop-number-preserved g c =
    let events = filter (is_boundary_of c.args.id.now) c.args.model.now.nodes in
    let left = named_left c.args.model.now.nodes events c.bounds_of-number-items.result.now (search rules) c.loop-number.number-index (omega arith) c.node-node.result.now c.node-node.ensures in
    let other : g.Q.Query.passes c.args.query.now c.node-node.result.now ≡ false = search rules in
    rw (left, other) at c.loop-number.invariant

use Rattle.std.proofs.Common.{◌≡◌, true, false, filter, refl, sym, ◌∙◌, arith, rules}
use Rattle.zb_faults.specs.Elements.{is_boundary_of}
use Rattle.zb_places.specs.Places.{held_tokens}
use Rattle.zb_game.specs.Searches.{interrupts_among}
use Rattle.zb_values.proofs.AwaitedLemmas.{names_item, named_left}
use Rattle.zb_game.proofs.halt.is_interrupted_in.Goals as goal

pub node-requires : goal.node-requires
node-requires c =
    let events = filter (is_boundary_of c.args.cell.now.node) c.args.model.now.nodes in
    names_item c.args.model.now.nodes events c.bounds_of-number-items.result.now (search rules) c.loop-number.number-index (omega arith)

pub returns-then-interrupts_among : goal.returns-then-interrupts_among
returns-then-interrupts_among c =
    let events = filter (is_boundary_of c.args.cell.now.node) c.args.model.now.nodes in
    let left = named_left c.args.model.now.nodes events c.bounds_of-number-items.result.now (search rules) c.loop-number.number-index (omega arith) c.node.result.now c.node.ensures in
    let is : interrupts_among c.args.cell.now.scope (held_tokens c.args.tokens.now) c.node.result.now ≡ true = search rules in
    sym (sym c.loop-number.invariant ∙ rw (left, is) refl)

pub loop-number-preserved : goal.loop-number-preserved
loop-number-preserved c =
    let events = filter (is_boundary_of c.args.cell.now.node) c.args.model.now.nodes in
    let left = named_left c.args.model.now.nodes events c.bounds_of-number-items.result.now (search rules) c.loop-number.number-index (omega arith) c.node.result.now c.node.ensures in
    let other : interrupts_among c.args.cell.now.scope (held_tokens c.args.tokens.now) c.node.result.now ≡ false = search rules in
    rw (left, other) at c.loop-number.invariant

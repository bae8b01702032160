use Rattle.std.proofs.Common.{◌≡◌, ◌∷◌, ◌+◌, drop, Some, None, arith, rules}
use Rattle.std.specs.List.{find}
use Rattle.zb_tokens.specs.Names.{value_seen}
use Rattle.zb_tokens.specs.Choice.{decides}
use Rattle.zb_values.specs.Exits.{decided_by}
use Rattle.zb_values.proofs.ExitLemmas.{exit-decided, exit-passed}
use Rattle.zb_values.proofs.FlowLemmas.{flows_from, is_flow, flow_left}
use Rattle.zb_values.proofs.exit.leave_at.Goals as goal

pub flow-flow-requires : goal.flow-flow-requires
flow-flow-requires c = is_flow c.args.model.now (flows_from c.args.model.now c.args.cell.now.node) c.outs_of-number-items.result.now (search rules) c.loop-number.number-index (omega arith)

pub returns-in-Some : goal.returns-in-Some
returns-in-Some c =
    let names = value_seen c.args.game.now c.args.cell.now.key in
    let node = c.args.node.now in
    let flow = c.flow-flow.result.now in
    let flows = flows_from c.args.model.now c.args.cell.now.node in
    let rest = drop (c.loop-number.number-index + 1) flows in
    let left = flow_left c.args.model.now flows c.outs_of-number-items.result.now (search rules) c.loop-number.number-index (omega arith) flow c.flow-flow.ensures in
    let so_far : find (decides names node) (flow ∷ rest) ≡ find (decides names node) flows = rw left at c.loop-number.invariant in
    let is : Some c.in-Some.exit ≡ decided_by names node flow c.args.key c.args.cell.now = search rules in
    exit-decided names node flow c.args.key c.args.cell.now flows rest so_far c.in-Some.exit is

pub loop-number-preserved : goal.loop-number-preserved
loop-number-preserved c =
    let names = value_seen c.args.game.now c.args.cell.now.key in
    let node = c.args.node.now in
    let flow = c.flow-flow.result.now in
    let flows = flows_from c.args.model.now c.args.cell.now.node in
    let rest = drop (c.loop-number.number-index + 1) flows in
    let left = flow_left c.args.model.now flows c.outs_of-number-items.result.now (search rules) c.loop-number.number-index (omega arith) flow c.flow-flow.ensures in
    let so_far : find (decides names node) (flow ∷ rest) ≡ find (decides names node) flows = rw left at c.loop-number.invariant in
    let is : None ≡ decided_by names node flow c.args.key c.args.cell.now = search rules in
    exit-passed names node flow c.args.key c.args.cell.now flows rest so_far is

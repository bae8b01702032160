use Rattle.std.proofs.Common.{◌≡◌, true, false, List, refl, sym, ap, ◌∙◌, arith, rules}
use Rattle.std.specs.List.{find}
use Rattle.std.proofs.lemmas.List.{drop_all}
use Rattle.zb_process.specs.declared.model.Flow.{Flow}
use Rattle.zb_tokens.specs.Choice.{is_default}
use Rattle.zb_values.proofs.FlowLemmas.{flows_from, is_flow, flow_left, many}
use Rattle.zb_values.proofs.flows.default_of.Goals as goal

pub flow-flow-requires : goal.flow-flow-requires
flow-flow-requires c = is_flow c.args.model.now (flows_from c.args.model.now c.args.id.now) c.outs_of-number-items.result.now c.outs_of-number-items.ensures.flows c.loop-number.number-index (omega arith)

pub returns-then-is_default : goal.returns-then-is_default
returns-then-is_default c =
    let left = flow_left c.args.model.now (flows_from c.args.model.now c.args.id.now) c.outs_of-number-items.result.now c.outs_of-number-items.ensures.flows c.loop-number.number-index (omega arith) c.flow-flow.result.now c.flow-flow.ensures in
    let is : is_default c.args.node.now c.flow-flow.result.now ≡ true = search rules in
    sym (sym c.loop-number.invariant ∙ rw (left, is) refl)

pub loop-number-preserved : goal.loop-number-preserved
loop-number-preserved c =
    let left = flow_left c.args.model.now (flows_from c.args.model.now c.args.id.now) c.outs_of-number-items.result.now c.outs_of-number-items.ensures.flows c.loop-number.number-index (omega arith) c.flow-flow.result.now c.flow-flow.ensures in
    let other : is_default c.args.node.now c.flow-flow.result.now ≡ false = search rules in
    rw (left, other) at c.loop-number.invariant

pub returns : goal.returns
returns c =
    let flows = flows_from c.args.model.now c.args.id.now in
    let all = many c.args.model.now flows c.outs_of-number-items.result.now c.outs_of-number-items.ensures.flows in
    ap (λ (l : List Flow). find (is_default c.args.node.now) l) (sym (drop_all c.loop-number.number-index flows (omega (arith, all)))) ∙ c.loop-number.invariant

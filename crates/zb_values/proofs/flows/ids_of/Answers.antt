use Rattle.std.proofs.Common.{ap, ◌∙◌, arith}
use Rattle.std.proofs.lemmas.List.{take_all}
use Rattle.zb_values.proofs.FlowLemmas.{ids_of_flows, is_flow, ids_more, many}
use Rattle.zb_values.proofs.flows.ids_of.Goals as goal

pub flow-requires : goal.flow-requires
flow-requires c = is_flow c.args.model.now c.requires.0 c.args.numbers.now c.requires.1 c.loop-number.number-index (omega arith)

pub loop-number-preserved : goal.loop-number-preserved
loop-number-preserved c = λ flows named.
    let more = ids_more c.args.model.now flows c.args.numbers.now named c.loop-number.number-index (omega arith) c.flow.result.now c.flow.ensures in
    let pushed = c.in_ok-push.ensures.ok in
    let copied = c.in_ok-copy.ensures in
    let so_far = c.loop-number.invariant flows named in
    cc

pub returns : goal.returns
returns c = λ flows named.
    let all = many c.args.model.now flows c.args.numbers.now named in
    c.loop-number.invariant flows named ∙ ap ids_of_flows (take_all c.loop-number.number-index flows (omega (arith, all)))

use Rattle.std.proofs.Common.{sym, ap, ◌∙◌}
use Rattle.std.specs.List.{find}
use Rattle.std.specs.Option.{option_map}
use Rattle.zb_process.specs.declared.model.Flow.{Flow}
use Rattle.zb_check.specs.Finding.{is_found_flow}
use Rattle.zb_check.proofs.LookLemmas.{first_here, first_later}
use Rattle.zb_check.proofs.finding.first_flow.Goals as goal

pub returns-then-is_found_flow : goal.returns-then-is_found_flow
returns-then-is_found_flow c =
    let p = is_found_flow c.args.test c.args.parts.now in
    ap (option_map (λ (x : Flow). x.id))
    (sym (first_here p c.flows-flows.result.now c.loop-flow.flow-index c.flow-item.result c.is_found_flow.result c.loop-flow-test.true c.flow-item.is c.is_found_flow.ensures c.if-is_found_flow.true)
    ∙ (c.loop-flow.invariant ∙ ap (find p) c.flows-flows.ensures))

pub loop-flow-preserved : goal.loop-flow-preserved
loop-flow-preserved c =
    let p = is_found_flow c.args.test c.args.parts.now in
    sym (first_later p c.flows-flows.result.now c.loop-flow.flow-index c.flow-item.result c.is_found_flow.result c.loop-flow-test.true c.flow-item.is c.is_found_flow.ensures c.if-is_found_flow.false) ∙ c.loop-flow.invariant

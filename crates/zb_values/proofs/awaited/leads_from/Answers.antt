use Rattle.std.proofs.Common.{◌≡◌, true, false, List, refl, sym, ap, ◌∙◌, arith, rules}
use Rattle.std.specs.List.{list_any}
use Rattle.std.specs.Str.{bytes_eq}
use Rattle.std.proofs.lemmas.List.{drop_all}
use Rattle.zb_process.specs.declared.model.Flow.{Flow}
use Rattle.zb_places.proofs.FlowLemmas.{flows_to, is_flow, flow_left, many}
use Rattle.zb_values.proofs.AwaitedLemmas.{any_filtered}
use Rattle.zb_values.proofs.awaited.leads_from.Goals as goal

pub flow-requires : goal.flow-requires
flow-requires c = is_flow c.args.model.now (flows_to c.args.model.now c.args.target.now) c.ins_of-number-items.result.now c.ins_of-number-items.ensures.flows c.loop-number.number-index (omega arith)

pub returns-then-eq : goal.returns-then-eq
returns-then-eq c =
    let flows = flows_to c.args.model.now c.args.target.now in
    let left = flow_left c.args.model.now flows c.ins_of-number-items.result.now c.ins_of-number-items.ensures.flows c.loop-number.number-index (omega arith) c.flow.result.now c.flow.ensures in
    let is : bytes_eq c.flow.result.now.from c.args.origin.now ≡ true = search rules in
    sym (sym (any_filtered (λ (f : Flow). bytes_eq f.from c.args.origin.now) (λ (f : Flow). bytes_eq f.to c.args.target.now) c.args.model.now.flows) ∙ (sym c.loop-number.invariant ∙ rw (left, is) refl))

pub loop-number-preserved : goal.loop-number-preserved
loop-number-preserved c =
    let flows = flows_to c.args.model.now c.args.target.now in
    let left = flow_left c.args.model.now flows c.ins_of-number-items.result.now c.ins_of-number-items.ensures.flows c.loop-number.number-index (omega arith) c.flow.result.now c.flow.ensures in
    let other : bytes_eq c.flow.result.now.from c.args.origin.now ≡ false = search rules in
    rw (left, other) at c.loop-number.invariant

pub returns : goal.returns
returns c =
    let flows = flows_to c.args.model.now c.args.target.now in
    let all = many c.args.model.now flows c.ins_of-number-items.result.now c.ins_of-number-items.ensures.flows in
    ap (λ (l : List Flow). list_any (λ (f : Flow). bytes_eq f.from c.args.origin.now) l) (sym (drop_all c.loop-number.number-index flows (omega (arith, all))))
    ∙ (c.loop-number.invariant ∙ any_filtered (λ (f : Flow). bytes_eq f.from c.args.origin.now) (λ (f : Flow). bytes_eq f.to c.args.target.now) c.args.model.now.flows)

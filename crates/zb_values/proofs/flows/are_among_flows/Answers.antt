use Rattle.std.proofs.Common.{◌≡◌, ◌+◌, Bool, true, false, drop, filter, List, ap, sym, ◌∙◌, arith, rules}
use Rattle.std.proofs.lemmas.List.{drop_all}
use Rattle.zb_faults.specs.Elements.{is_at, is_event_gateway}
use Rattle.zb_process.specs.declared.model.Flow.{Flow}
use Rattle.zb_tokens.specs.MoveLeave.{are_among, may_take}
use Rattle.zb_values.proofs.FlowLemmas.{flows_from, ids_of_flows, is_flow, flow_left, ids_taken, ids_passed, many, among_left, are_among-none}
use Rattle.zb_values.proofs.flows.are_among_flows.Goals as goal
use Rattle.zb_values.proofs.flows.are_among_flows.Goals.{then-may_take, else-may_take}

pub flow-flow-requires : goal.flow-flow-requires
flow-flow-requires c = is_flow c.args.model.now (flows_from c.args.model.now c.args.cell.now.node) c.outs_of-number-items.result.now (search rules) c.loop-number.number-index (omega arith)

pub loop-number-preserved : goal.loop-number-preserved
loop-number-preserved c =
    let p = may_take c.chooses_by_event-at_event_gateway.result c.args.cell.now in
    let flows = flows_from c.args.model.now c.args.cell.now.node in
    let i = c.loop-number.number-index in
    let flow = c.flow-flow.result.now in
    let left = flow_left c.args.model.now flows c.outs_of-number-items.result.now (search rules) i (omega arith) flow c.flow-flow.ensures in
    let so_far = c.loop-number.invariant in
    elim c.if-may_take.branch [
      | then-may_take w ↦
          let takes : p flow ≡ true = search rules in
          let taken = ids_taken p (drop i flows) (drop (i + 1) flows) flow left takes in
          let is = w.rest-is in
          let met = w.left_after-rest.ensures in
          let named = w.as_str.ensures in
          let after = among_left c.loop-number.rest.now flow.id (ids_of_flows (filter p (drop (i + 1) flows))) in
          cc
      | else-may_take w ↦
          let out : p flow ≡ false = search rules in
          let passed = ids_passed p (drop i flows) (drop (i + 1) flows) flow left out in
          let is = w.rest-is in
          cc
    ]

pub returns : goal.returns
returns c =
    let cell = c.args.cell.now in
    let flows = flows_from c.args.model.now cell.node in
    let all = many c.args.model.now flows c.outs_of-number-items.result.now (search rules) in
    let at : c.chooses_by_event-at_event_gateway.result ≡ is_at c.args.model.now cell.node is_event_gateway = search rules in
    c.is_empty.ensures ∙ (sym (are_among-none c.loop-number.rest.now)
    ∙ (ap (λ (l : List Flow). are_among c.loop-number.rest.now (ids_of_flows (filter (may_take c.chooses_by_event-at_event_gateway.result cell) l))) (sym (drop_all c.loop-number.number-index flows (omega (arith, all))))
    ∙ (c.loop-number.invariant ∙ ap (λ (t : Bool). are_among c.args.ids.now (ids_of_flows (filter (may_take t cell) flows))) at)))

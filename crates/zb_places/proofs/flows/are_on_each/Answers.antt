use Rattle.std.proofs.Common.{◌≡◌, ℕ, ◌==◌, ◌+◌, drop, length, List, not, true, false, ap, sym, ◌∙◌, arith, rules}
use Rattle.std.specs.List.{list_any}
use Rattle.std.proofs.lemmas.List.{drop_all, length-map}
use Rattle.zb_process.specs.declared.model.Flow.{Flow}
use Rattle.zb_tokens.specs.declared.board.Spot.TheVariants as spots
use Rattle.zb_tokens.specs.MoveEnter.{stands_at}
use Rattle.zb_places.specs.Places.{held_tokens}
use Rattle.zb_places.proofs.FlowLemmas.{flows_to, ids_of_flows, is_flow, ids_left, many, on_each, on_each-not, on_each-more, not_at_each, at_each}
use Rattle.zb_places.proofs.flows.are_on_each.Goals as goal

pub flow-requires : goal.flow-requires
flow-requires c = is_flow c.args.model.now (flows_to c.args.model.now c.args.node.now) c.ins_of-numbers.result.now c.ins_of-numbers.ensures.flows c.loop-number.number-index (omega arith)

pub returns-then-not-stands_on : goal.returns-then-not-stands_on
returns-then-not-stands_on c =
    let flows = flows_to c.args.model.now c.args.node.now in
    let id = c.flow.result.now.id in
    let left = ids_left c.args.model.now flows c.ins_of-numbers.result.now c.ins_of-numbers.ensures.flows c.loop-number.number-index (omega arith) c.flow.result.now c.flow.ensures in
    let none : list_any (stands_at c.args.scope (spots.OnFlow id)) (held_tokens c.args.tokens.now) ≡ false = search rules in
    let fails = on_each-not c.args.scope (held_tokens c.args.tokens.now) id (ids_of_flows (drop c.loop-number.number-index flows)) (ids_of_flows (drop (c.loop-number.number-index + 1) flows)) left none in
    sym (not_at_each c.args.scope (ids_of_flows flows) (held_tokens c.args.tokens.now) (sym c.loop-number.invariant ∙ fails))

pub loop-number-preserved : goal.loop-number-preserved
loop-number-preserved c =
    let flows = flows_to c.args.model.now c.args.node.now in
    let id = c.flow.result.now.id in
    let left = ids_left c.args.model.now flows c.ins_of-numbers.result.now c.ins_of-numbers.ensures.flows c.loop-number.number-index (omega arith) c.flow.result.now c.flow.ensures in
    let some : list_any (stands_at c.args.scope (spots.OnFlow id)) (held_tokens c.args.tokens.now) ≡ true = search rules in
    let holds = on_each-more c.args.scope (held_tokens c.args.tokens.now) id (ids_of_flows (drop c.loop-number.number-index flows)) (ids_of_flows (drop (c.loop-number.number-index + 1) flows)) left some in
    sym holds ∙ c.loop-number.invariant

pub returns : goal.returns
returns c =
    let flows = flows_to c.args.model.now c.args.node.now in
    let all = many c.args.model.now flows c.ins_of-numbers.result.now c.ins_of-numbers.ensures.flows in
    let holds : on_each c.args.scope (ids_of_flows flows) (held_tokens c.args.tokens.now) ≡ true =
    sym c.loop-number.invariant ∙ ap (λ (l : List Flow). on_each c.args.scope (ids_of_flows l) (held_tokens c.args.tokens.now)) (drop_all c.loop-number.number-index flows (omega (arith, all))) in
    let asked = at_each c.args.scope (ids_of_flows flows) (held_tokens c.args.tokens.now) holds in
    let as_many : length (ids_of_flows flows) ≡ length c.ins_of-numbers.result.now = length-map flows (λ (f : Flow). f.id) ∙ sym all in
    ap not c.is_empty.ensures ∙ sym (asked ∙ ap (λ (n : ℕ). not (n == 0)) as_many)

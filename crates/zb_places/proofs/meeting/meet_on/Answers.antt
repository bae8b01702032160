use Rattle.std.proofs.Common.{◌≡◌, ℕ, ◌+◌, List, [], ◌∷◌, ◌++◌, take, filter, length, All, sym, subst, ◌∙◌, arith, rules}
use Rattle.std.specs.Str.{bytes_eq}
use Rattle.std.proofs.lemmas.List.{take_all}
use Rattle.std.proofs.lemmas.List.Elements.{All-push}
use Rattle.zb_process.specs.declared.model.Flow.{Flow}
use Rattle.zb_places.specs.Places.{IsMetAt}
use Rattle.zb_places.proofs.FlowLemmas.{is_flow, flow_more, many}
use Rattle.zb_places.proofs.MeetingLemmas.{met_more}
use Rattle.zb_places.proofs.meeting.meet_on.Goals as goal

pub flow-requires : goal.flow-requires
flow-requires c = is_flow c.args.model.now (filter (λ (f : Flow). bytes_eq f.id c.args.id.now) c.args.model.now.flows) c.flows_with-number-items.result.now c.flows_with-number-items.ensures c.loop-number.number-index (omega arith)

pub loop-number-preserved : goal.loop-number-preserved
loop-number-preserved c =
    let m = c.args.model.now in
    let rows = c.args.tokens.now in
    let scope = c.args.scope in
    let flows = filter (λ (f : Flow). bytes_eq f.id c.args.id.now) m.flows in
    let i = c.loop-number.number-index in
    let more = c.meet_at.new.met in
    let next = flow_more m flows c.flows_with-number-items.result.now c.flows_with-number-items.ensures i (omega arith) c.flow.result.now c.flow.ensures in
    let so_far = met_more m rows scope c.loop-number.met more (take i flows) c.in_ok-meet_at.ensures.still c.loop-number.invariant in
    let here : IsMetAt m rows scope c.flow.result.now.to more = subst (λ (n : List ℕ). IsMetAt m rows scope n more) c.as_str.ensures c.in_ok-meet_at.ensures.here in
    subst (λ (fs : List Flow). All (λ f. IsMetAt m rows scope f.to more) fs) (sym next) (All-push (λ (f : Flow). IsMetAt m rows scope f.to more) (take i flows) c.flow.result.now so_far here)

pub returns : goal.returns
returns c =
    let m = c.args.model.now in
    let flows = filter (λ (f : Flow). bytes_eq f.id c.args.id.now) m.flows in
    let as_many = many m flows c.flows_with-number-items.result.now c.flows_with-number-items.ensures in
    subst (λ (fs : List Flow). All (λ f. IsMetAt m c.args.tokens.now c.args.scope f.to c.loop-number.met) fs) (take_all c.loop-number.number-index flows (omega (arith, as_many))) c.loop-number.invariant

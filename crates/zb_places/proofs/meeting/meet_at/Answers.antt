use Rattle.std.proofs.Common.{◌≡◌, ℕ, ◌+◌, List, [], ◌∷◌, ◌++◌, take, drop, length, All, true, false, sym, ap, subst, ◌∙◌, arith, rules}
use Rattle.std.proofs.lemmas.List.{take_all}
use Rattle.std.proofs.lemmas.List.Elements.{All-push}
use Rattle.std.proofs.lemmas.Result.{on_ok_weaker}
use Rattle.zb_process.specs.declared.model.Flow.{Flow}
use Rattle.zb_places.specs.Places.{is_kept}
use Rattle.zb_places.proofs.FlowLemmas.{flows_to, is_flow, flow_more, many}
use Rattle.zb_places.proofs.MeetingLemmas.{IsKeptOn, on_more, met_here}
use Rattle.zb_places.proofs.meeting.meet_at.Goals as goal

pub flow-requires : goal.flow-requires
flow-requires c = is_flow c.args.model.now (flows_to c.args.model.now c.args.node.now) c.ins_of-number-items.result.now c.ins_of-number-items.ensures.flows c.loop-number.number-index (omega arith)

pub loop-number-preserved : goal.loop-number-preserved
loop-number-preserved c =
    let m = c.args.model.now in
    let rows = c.args.tokens.now in
    let scope = c.args.scope in
    let flows = flows_to m c.args.node.now in
    let i = c.loop-number.number-index in
    let more = c.meet.new.met in
    let next = flow_more m flows c.ins_of-number-items.result.now c.ins_of-number-items.ensures.flows i (omega arith) c.flow.result.now c.flow.ensures in
    let so_far = on_more m rows scope c.loop-number.met more (take i flows) c.in_ok-meet.ensures.still c.loop-number.invariant.0 in
    let here : IsKeptOn m rows scope more c.flow.result.now = λ h is. c.in_ok-meet.ensures.here h (search rules) in (
      subst (λ (fs : List Flow). All (IsKeptOn m rows scope more) fs) (sym next) (All-push (IsKeptOn m rows scope more) (take i flows) c.flow.result.now so_far here),
      λ number is. c.in_ok-meet.ensures.still number (c.loop-number.invariant.1 number is),
    )

pub returns-clause-here : goal.returns-clause-here
returns-clause-here c = λ h first its way joined comes.
    let m = c.args.model.now in
    let rows = c.args.tokens.now in
    let scope = c.args.scope in
    let node = c.args.node.now in
    let flows = flows_to m node in
    let i = c.loop-number.number-index in
    let as_many = many m flows c.ins_of-number-items.result.now c.ins_of-number-items.ensures.flows in
    let on : All (IsKeptOn m rows scope c.loop-number.met) flows = subst (λ (fs : List Flow). All (IsKeptOn m rows scope c.loop-number.met) fs) (take_all i flows (omega (arith, as_many))) c.loop-number.invariant.0 in
    met_here m rows scope h first its node c.meet-2.new.met (on_more m rows scope c.loop-number.met c.meet-2.new.met flows c.in_ok-meet-2.ensures.still on) (λ x is. c.in_ok-meet-2.ensures.here x (search rules)) way

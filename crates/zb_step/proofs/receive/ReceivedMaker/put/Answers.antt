use Rattle.std.proofs.Common.{◌≡◌, List, [], refl, sym}
use Rattle.std.proofs.lemmas.Result.{on_ok_weaker}
use Rattle.zb_model.specs.declared.record.Event.{Event}
use Rattle.zb_rules.specs.Behind.{with_events_behind}
use Rattle.zb_rules.specs.Making.{Making, just, and_then}
use Rattle.zb_rules.specs.Receive.{closed_after, received}
use Rattle.zb_state.specs.State.{partition_of, IsStateOf}
use Rattle.zb_follow.proofs.MakerLemmas.{same_cant, same_put, put_none}
use Rattle.zb_step.proofs.ReceiveLemmas.{given, sets, received_as}
use Rattle.zb_step.proofs.receive.ReceivedMaker.put.Goals as goal

module _ (c : goal.After-put) where
  abbrev made : Making
  made = and_then (just (given c.args.self.0.now)) (and_then (closed_after c.args.self.0.now.subscription) (and_then (sets c.as_slice.result.now c.place_of.result) (with_events_behind (partition_of c.args.state.now) c.args.moment c.in_ok-event.event)))

  is_received : (es : List Event) → IsStateOf es c.args.state.now → made es ≡ received (partition_of c.args.state.now) c.args.moment c.args.self.0.now es
  is_received es is =
      received_as (partition_of c.args.state.now) c.args.moment es c.args.self.0.now c.in-Some.subscription.now c.place_of.result c.in_ok-event.event c.as_slice.result.now
      (sym (c.in-Some.ensures es is)) (c.place_of.ensures es c.as_slice.result.now is) c.in_ok-event.ensures c.as_slice.ensures.value

pub returns-clause-ok : goal.returns-clause-ok
returns-clause-ok c =
    on_ok_weaker c.put.result (same_put (made c) (received (partition_of c.args.state.now) c.args.moment c.args.self.0.now) c.args.state.now c.put.new.state c.args.out.now c.put.new.out (is_received c)) c.put.ensures.ok

pub returns-clause-misfit : goal.returns-clause-misfit
returns-clause-misfit c = λ misfit. same_cant (made c) (received (partition_of c.args.state.now) c.args.moment c.args.self.0.now) c.args.state.now (is_received c) (c.put.ensures.misfit misfit)

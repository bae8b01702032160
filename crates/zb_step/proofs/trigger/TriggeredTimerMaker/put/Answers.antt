use Rattle.std.proofs.Common.{[], refl}
use Rattle.std.proofs.lemmas.Result.{on_ok_weaker}
use Rattle.zb_rules.specs.Behind.{with_events_behind}
use Rattle.zb_rules.specs.Making.{Making, just, and_then}
use Rattle.zb_rules.specs.Trigger.{triggered}
use Rattle.zb_state.specs.State.{partition_of}
use Rattle.zb_follow.proofs.MakerLemmas.{same_cant, same_put, put_none}
use Rattle.zb_step.proofs.trigger.TriggeredTimerMaker.put.Goals as goal

pub returns-in_ok-told-in-Some-clause-ok : goal.returns-in_ok-told-in-Some-clause-ok
returns-in_ok-told-in-Some-clause-ok c =
    let p = partition_of c.args.state.now in
    let it = c.in_ok-told-in-Some in
    let made : Making = and_then (just it.told.0) (with_events_behind p c.args.moment it.told.1.0) in
    on_ok_weaker c.put.result
    (same_put made (triggered p c.args.moment c.args.self.0) c.args.state.now c.put.new.state c.args.out.now c.put.new.out
    (λ es is. rw (c.timers.ensures es is, ← c.in-Some.ensures.timer, it.ensures.0, it.ensures.1) refl))
    c.put.ensures.ok

pub returns-in_ok-told-in-Some-clause-misfit : goal.returns-in_ok-told-in-Some-clause-misfit
returns-in_ok-told-in-Some-clause-misfit c = λ misfit.
    let p = partition_of c.args.state.now in
    let it = c.in_ok-told-in-Some in
    let made : Making = and_then (just it.told.0) (with_events_behind p c.args.moment it.told.1.0) in
    same_cant made (triggered p c.args.moment c.args.self.0) c.args.state.now
    (λ es is. rw (c.timers.ensures es is, ← c.in-Some.ensures.timer, it.ensures.0, it.ensures.1) refl)
    (c.put.ensures.misfit misfit)

pub returns-in-None-clause-ok : goal.returns-in-None-clause-ok
returns-in-None-clause-ok c =
    same_put (λ before. []) (triggered (partition_of c.args.state.now) c.args.moment c.args.self.0) c.args.state.now c.args.state.now c.args.out.now c.args.out.now
    (λ es is. rw (c.timers.ensures es is, ← c.in-None.ensures.timer) refl)
    (put_none c.args.state.now c.args.out.now)

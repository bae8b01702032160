use Rattle.std.proofs.Common.{List, [], ◌∷◌, ◌++◌, ap, sym}
use Rattle.std.proofs.lemmas.Result.{on_ok_weaker}
use Rattle.zb_model.specs.declared.record.Event.{Event}
use Rattle.zb_rules.specs.Behind.{with_events_behind}
use Rattle.zb_rules.specs.Making.{just, and_then}
use Rattle.zb_state.specs.State.{partition_of}
use Rattle.zb_follow.specs.Behind.{made_behind}
use Rattle.zb_follow.proofs.MakerLemmas.{same_cant, same_put}
use Rattle.zb_follow.proofs.behind.WithBehindMaker.put.Goals as goal

pub returns-in-Ok-clause-ok : goal.returns-in-Ok-clause-ok
returns-in-Ok-clause-ok c =
    let p = partition_of c.args.state.now in
    let e : Event = c.args.self.0 in
    let made = and_then (just e) (made_behind p c.args.moment c.in-Ok.behind) in
    on_ok_weaker c.put.result
    (same_put made (with_events_behind p c.args.moment e) c.args.state.now c.put.new.state c.args.out.now c.put.new.out
    (λ es is. ap (λ (l : List Event). e ∷ l) (sym (c.in-Ok.ensures p c.args.moment es (es ++ e ∷ []) is))))
    c.put.ensures.ok

pub returns-in-Ok-clause-misfit : goal.returns-in-Ok-clause-misfit
returns-in-Ok-clause-misfit c = λ misfit.
    let p = partition_of c.args.state.now in
    let e : Event = c.args.self.0 in
    let made = and_then (just e) (made_behind p c.args.moment c.in-Ok.behind) in
    same_cant made (with_events_behind p c.args.moment e) c.args.state.now
    (λ es is. ap (λ (l : List Event). e ∷ l) (sym (c.in-Ok.ensures p c.args.moment es (es ++ e ∷ []) is)))
    (c.put.ensures.misfit misfit)

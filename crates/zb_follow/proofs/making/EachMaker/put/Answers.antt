use Rattle.std.proofs.Common.{◌≡◌, ℕ, take, rules, arith, sym, subst}
use Rattle.std.proofs.lemmas.List.{take_all}
use Rattle.zb_rules.specs.Making.{Making, each_made}
use Rattle.zb_state.specs.State.{partition_of, HasPut}
use Rattle.zb_follow.specs.Making.{any_event}
use Rattle.zb_follow.proofs.MakerLemmas.{same_cant, same_put, cant_at, put_at}
use Rattle.zb_follow.proofs.making.EachMaker.put.Goals as goal

pub returns-in_err-put-clause-misfit : goal.returns-in_err-put-clause-misfit
returns-in_err-put-clause-misfit g c = λ misfit.
    let make : ℕ → _ → Making = λ p x. g.F.FindEach.finds c.args.self.finder.now x p c.args.moment in
    cant_at make c.args.self.things.now c.loop-thing.thing-index c.thing-item.result (omega arith) c.thing-item.is c.args.state.now c.loop-thing.state _ _ c.loop-thing.invariant.1 c.loop-thing.invariant.0
    (same_cant (λ es. any_event c.in_ok-event.event) (make (partition_of c.loop-thing.state) c.thing-item.result) c.loop-thing.state (λ es at. sym (c.in_ok-event.ensures es at)) (c.in_err-put.ensures.misfit (search rules)))

pub loop-thing-preserved : goal.loop-thing-preserved
loop-thing-preserved g c =
    let make : ℕ → _ → Making = λ p x. g.F.FindEach.finds c.args.self.finder.now x p c.args.moment in (
      put_at make c.args.self.things.now c.loop-thing.thing-index c.thing-item.result (omega arith) c.thing-item.is c.args.state.now c.loop-thing.state _ _ c.loop-thing.invariant.1 c.loop-thing.invariant.0 _ _
          (same_put (λ es. any_event c.in_ok-event.event) (make (partition_of c.loop-thing.state) c.thing-item.result) c.loop-thing.state _ _ _ (λ es at. sym (c.in_ok-event.ensures es at)) c.in_ok-put.ensures.ok),
      search rules,
      omega (arith, c.in_ok-put.ensures.more, c.loop-thing.invariant.2),
    )

pub returns-clause-ok : goal.returns-clause-ok
returns-clause-ok g c =
    let things = c.args.self.things.now in
    let all : take c.loop-thing.thing-index things ≡ things = take_all c.loop-thing.thing-index things (omega arith) in
    subst (λ xs. HasPut (each_made (λ x. g.F.FindEach.finds c.args.self.finder.now x (partition_of c.args.state.now) c.args.moment) xs) c.args.state.now c.loop-thing.state c.args.out.now c.loop-thing.out) all c.loop-thing.invariant.0

use Rattle.std.proofs.Common.{◌≡◌, ◌++◌, ℕ, refl, sym, ◌∙◌, subst, arith}
use Rattle.zb_wire.specs.declared.request.Request.TheVariants as requests
use Rattle.zb_reply.specs.declared.reply.Reply.TheVariants as replies
use Rattle.zb_desk.specs.Serial.{most_due}
use Rattle.zb_engine.specs.Solo.{IsDone}
use Rattle.zb_engine.proofs.AskingLemmas.{ticked_none, ticked_more, due_comes, tick_done, tick_full, tick_cut}
use Rattle.zb_engine.proofs.asking.tick.Goals as goal

pub loop-done-init : goal.loop-done-init
loop-done-init g c = (λ start made has. ticked_none start made c.args.reading c.args.solo.now has, c.requires, refl)

-- nothing is due any more
pub returns-in_default-clause-done : goal.returns-in_default-clause-done
unfolding most_due
returns-in_default-clause-done g c = λ start made has.
    let w = c.loop-done.invariant.0 start made has in
    let comes = due_comes start made c.args.reading w.are.more c.count.result c.next_due.result c.that_can.result (c.count.ensures.count start (made ++ w.are.more) w.are.holds) (c.next_due.ensures start (made ++ w.are.more) w.are.holds) c.that_can.ensures.same in
    tick_done start made c.args.reading c.loop-done.done c.loop-done.solo w (omega (arith, c.loop-done-test.true)) (sym comes ∙ c.in_default.is)

-- the command stopped the engine
pub returns-in-Err-clause-cut : goal.returns-in-Err-clause-cut
unfolding most_due
returns-in-Err-clause-cut g c = λ start made has.
    let w = c.loop-done.invariant.0 start made has in
    let comes = due_comes start made c.args.reading w.are.more c.count.result c.next_due.result c.that_can.result (c.count.ensures.count start (made ++ w.are.more) w.are.holds) (c.next_due.ensures start (made ++ w.are.more) w.are.holds) c.that_can.ensures.same in
    let away = (c.in-Err.ensures.stopped start (made ++ w.are.more) w.are.holds) in
    tick_cut start made c.args.reading c.loop-done.done c.loop-done.solo _ w c.in-Some.next.0 c.in-Some.next.1 c.in-Err.stop (omega (arith, c.loop-done-test.true))
    (sym comes ∙ c.in-Some.is) away

pub loop-done-preserved : goal.loop-done-preserved
unfolding most_due
loop-done-preserved g c = (
  λ start made has.
      let w = c.loop-done.invariant.0 start made has in
      let comes = due_comes start made c.args.reading w.are.more c.count.result c.next_due.result c.that_can.result (c.count.ensures.count start (made ++ w.are.more) w.are.holds) (c.next_due.ensures start (made ++ w.are.more) w.are.holds) c.that_can.ensures.same in
      let placed = (c.in-Ok.ensures.placed start (made ++ w.are.more) w.are.holds) in
      ticked_more start made c.args.reading c.loop-done.done c.loop-done.solo _ w c.in-Some.next.0 c.in-Some.next.1 _ (omega (arith, c.loop-done-test.true)) (sym comes ∙ c.in-Some.is) placed,
  c.in-Ok.ensures.still,
  c.commit.ensures.many ∙ c.loop-done.invariant.2,
)

-- as much as may be
pub returns-clause-done : goal.returns-clause-done
unfolding most_due
returns-clause-done g c = λ start made has.
    let w = c.loop-done.invariant.0 start made has in
    let full : c.loop-done.done ≡ 1000 = omega (arith, c.loop-done-test.false, c.loop-done.auto.done-end) in
    subst (λ (n : ℕ). IsDone start made requests.Tick c.args.reading (replies.Tick n) c.loop-done.solo) full
    (tick_full start made c.args.reading c.loop-done.done c.loop-done.solo w (omega (arith, c.loop-done-test.false)))

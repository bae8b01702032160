use Rattle.std.proofs.Common.{◌≡◌, ◌<◌, ◌++◌, ℕ, List, length, Some, refl, sym, ap, subst, ◌∙◌, arith}
use Rattle.zb_model.specs.declared.record.Packet.{Packet}
use Rattle.zb_model.specs.declared.stop.Stop.TheVariants as stops
use Rattle.zb_views.specs.Standing.{begun_by}
use Rattle.zb_record.specs.Answers.{answer_packet}
use Rattle.zb_desk.specs.Asking.{IsDelivered}
use Rattle.zb_engine.specs.Solo.{basis_in, many_in, partitions_in, HasMade}
use Rattle.zb_engine.proofs.DeliveryLemmas.{working_none, working_more, delivered_all, delivered_full, delivery_cut, delivery_cut_resting, unit_comes}
use Rattle.zb_engine.proofs.MadeLemmas.{ended_resting}
use Rattle.zb_engine.proofs.delivering.deliver.Goals as goal

pub loop-done-init : goal.loop-done-init
loop-done-init g c = (λ start made has. working_none start made c.args.reading c.new-hand.result.items c.args.solo.now c.new-hand.ensures.items has, c.requires, refl)

-- there was no memory for what comes next
pub returns-in-Err-clause-cut : goal.returns-in-Err-clause-cut
returns-in-Err-clause-cut g c = λ start made has.
    let w = c.loop-done.invariant.0 start made has in
    let within : 0 < length (partitions_in c.loop-done.solo) = omega (arith, c.loop-done.solo.some) in
    rw (c.keep.ensures.stop)
    (delivery_cut_resting start made c.args.reading c.loop-done.done c.loop-done.hand.items c.loop-done.solo c.keep.new.self w
    (ended_resting start (made ++ w.are.more) c.loop-done.solo c.keep.new.self w.are.holds 1 0 refl within g.met.D.Disk.images_told c.keep.ensures.partitions c.keep.ensures.stamps
    (c.keep.ensures.kept ∙ ap (λ (p : ℕ). Some (p, stops.Memory)) c.new.ensures)))

-- nothing comes next
pub returns-in_default-clause-delivered : goal.returns-in_default-clause-delivered
returns-in_default-clause-delivered g c = λ start made has.
    let w = c.loop-done.invariant.0 start made has in
    let comes = unit_comes start made w.are.more c.count.result c.in-Ok.next c.that_can-next.result (c.count.ensures.some) (c.count.ensures.count start (made ++ w.are.more) w.are.holds) (c.in-Ok.ensures.next start (made ++ w.are.more) w.are.more w.are.holds w.in_hand) c.that_can-next.ensures.same in
    delivered_all start made c.args.reading c.loop-done.done c.loop-done.hand.items c.loop-done.solo w (omega (arith, c.loop-done-test.true, has.bound)) (sym comes ∙ c.in_default.is)

-- the unit stopped the engine
pub returns-in-Err-do_unit-clause-cut : goal.returns-in-Err-do_unit-clause-cut
returns-in-Err-do_unit-clause-cut g c = λ start made has.
    let w = c.loop-done.invariant.0 start made has in
    let comes = unit_comes start made w.are.more c.count.result c.in-Ok.next c.that_can-next.result (c.count.ensures.some) (c.count.ensures.count start (made ++ w.are.more) w.are.holds) (c.in-Ok.ensures.next start (made ++ w.are.more) w.are.more w.are.holds w.in_hand) c.that_can-next.ensures.same in
    let away = (c.in-Err-do_unit.ensures.stopped start (made ++ w.are.more) w.are.holds) in
    delivery_cut start made c.args.reading c.loop-done.done c.loop-done.hand.items c.loop-done.solo _ w c.in-Some.next.0 c.in-Some.next.1 c.in-Err-do_unit.stop
    (omega (arith, c.loop-done-test.true, has.bound)) (sym comes ∙ c.in-Some.is) away

pub loop-done-preserved : goal.loop-done-preserved
loop-done-preserved g c = (
  λ start made has.
      let w = c.loop-done.invariant.0 start made has in
      let comes = unit_comes start made w.are.more c.count.result c.in-Ok.next c.that_can-next.result (c.count.ensures.some) (c.count.ensures.count start (made ++ w.are.more) w.are.holds) (c.in-Ok.ensures.next start (made ++ w.are.more) w.are.more w.are.holds w.in_hand) c.that_can-next.ensures.same in
      let its : c.in-Ok.next ≡ Some c.in-Some.next = rw c.in-Some.is at c.that_can-next.ensures.its in
      let taken = rw its at (c.in-Ok.ensures.taken (many_in start) w.are.more w.in_hand) in
      let s = (c.in-Ok-do_unit.ensures.placed start (made ++ w.are.more) w.are.holds) in
      working_more start made c.args.reading c.loop-done.done c.loop-done.hand.items _ c.loop-done.solo _ w c.in-Some.next.0 c.in-Some.next.1 s.0
      (omega (arith, c.loop-done-test.true, has.bound)) (sym comes ∙ c.in-Some.is) s.1
      (s.2 ∙ ap (λ (hand : List Packet). hand ++ begun_by (answer_packet c.in-Some.next.0 (many_in start) s.0)) taken),
  c.in-Ok-do_unit.ensures.still,
  c.do_unit.ensures.many ∙ c.loop-done.invariant.2,
)

-- as many as may be
pub returns-clause-delivered : goal.returns-clause-delivered
returns-clause-delivered g c = λ start made has.
    let w = c.loop-done.invariant.0 start made has in
    let full : c.loop-done.done ≡ c.loop-done.solo.units = omega (arith, c.loop-done-test.false, c.loop-done.auto.done-end, has.bound, w.are.holds.bound) in
    subst (λ (n : ℕ). IsDelivered (basis_in start) c.args.reading made (λ es. HasMade start es c.loop-done.solo) n) full
    (delivered_full start made c.args.reading c.loop-done.done c.loop-done.hand.items c.loop-done.solo w (omega (arith, c.loop-done-test.false, has.bound)))

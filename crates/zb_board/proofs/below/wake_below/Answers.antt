use Rattle.std.proofs.Common.{◌<◌, ◌^◌, arith}
use Rattle.std.proofs.lemmas.Bool.Decides.{nat_tests}
use Rattle.zb_board.proofs.BelowLemmas.{less_left, looking_first, looking_next}
use Rattle.zb_board.proofs.below.wake_below.Goals as goal

pub loop-key-init : goal.loop-key-init
loop-key-init c = record {
  looking = looking_first c.args.children.now.keys c.args.scope c.wake_children.new.ready c.wake_children.new.waiting c.in_ok-wake_children.ensures.woken c.in_ok-wake_children.ensures.waits;
  still = c.in_ok-wake_children.ensures.still;
}

pub loop-key-smaller : goal.loop-key-smaller
loop-key-smaller c =
    let key : c.in-Some.key < 2 ^ 64 = omega arith in
    less_left (2 ^ 64) c.in-Some.key c.loop-key.waiting.keys c.pop_first.new.self.keys c.wake_children-in-Some.new.waiting.keys key c.in-Some.ensures.removal
    (c.in_ok-wake_children-2.ensures.newer (λ i d within. let less = c.in-Some.ensures.all_above i d within in grind (arith, nat_tests, less)))

pub loop-key-preserved : goal.loop-key-preserved
loop-key-preserved c = record {
  looking = looking_next c.args.children.now.keys c.args.scope c.in-Some.key c.loop-key.ready c.wake_children-in-Some.new.ready c.loop-key.waiting c.pop_first.new.self c.wake_children-in-Some.new.waiting c.loop-key.invariant.looking
      c.in-Some.ensures.updates.0 c.in_ok-wake_children-2.ensures.still c.in_ok-wake_children-2.ensures.stay c.in_ok-wake_children-2.ensures.woken c.in_ok-wake_children-2.ensures.waits;
  still = λ key is. c.in_ok-wake_children-2.ensures.still key (c.loop-key.invariant.still key is);
}

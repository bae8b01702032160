use Rattle.std.proofs.Common.{◌≡◌, [], ◌∙◌}
use Rattle.zb_tally.proofs.CountLemmas.{one_pushed, all_pushed}
use Rattle.zb_tally.proofs.serving.empty_volumes.Goals as goal

pub loop-place-preserved : goal.loop-place-preserved
loop-place-preserved c = record {
  many = one_pushed _ _ _ c.loop-place._place c.in-Ok.ensures.items c.loop-place.invariant.many;
  empty = all_pushed (λ volume. volume.log ≡ []) _ _ _ c.in-Ok.ensures.items c.loop-place.invariant.empty (c.new-in-loop-place.ensures ∙ c.new.ensures.items);
}

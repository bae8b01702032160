use Rattle.std.proofs.Common.{refl}
use Rattle.zb_wire.proofs.ListedLemmas.{listed-step}
use Rattle.zb_wire.proofs.members.list_members.Goals as goal

pub loop-name-preserved : goal.loop-name-preserved
loop-name-preserved c = listed-step _ _ _ _ _ (c.in-Some.name.now, c.in-Some.value.now) _ c.loop-name.invariant c.in-Some.ensures.steps c.as_str.ensures.value refl c.in_ok-push.ensures.items

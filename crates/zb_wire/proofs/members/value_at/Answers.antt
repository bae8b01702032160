use Rattle.zb_wire.proofs.ListedLemmas.{found-here, found-later}
use Rattle.zb_wire.proofs.members.value_at.Goals as goal

pub returns-then-eq : goal.returns-then-eq
returns-then-eq c = found-here _ _ _ _ c.member-item.result c.loop-member-test.true c.member-item.is c.loop-member.invariant c.if-eq.ensures

pub loop-member-preserved : goal.loop-member-preserved
loop-member-preserved c = found-later _ _ _ _ c.member-item.result c.loop-member-test.true c.member-item.is c.loop-member.invariant c.if-eq.ensures

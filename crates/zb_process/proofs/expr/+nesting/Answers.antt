use Rattle.std.proofs.Common.{arith, ap}
use Rattle.std.proofs.lemmas.Grind.{common_steps}
use Rattle.zb_process.specs.Tree.{nesting}
use Rattle.zb_process.proofs.NestingLemmas.{nesting-take}
use Rattle.zb_process.proofs.expr.+nesting.Goals as goal

pub members_nesting-loop-member-preserved : goal.members_nesting-loop-member-preserved
members_nesting-loop-member-preserved t c =
    let next = nesting-take c.args.members.now c.loop-member.member-index c.member-item.result c.loop-member-test.true in
    grind (arith, common_steps, next, ap nesting c.member-item.is)

use Rattle.zb_lists.proofs.MemberLemmas.{pair_removed}
use Rattle.zb_lists.proofs.changes.forget.Goals as goal

pub returns-in-Some : goal.returns-in-Some
returns-in-Some c = λ n k. rw (c.in-Some.is, c.remove.ensures.left) (pair_removed c.args.moments.now c.in-Some.moment c.args.key n k c.remove.ensures.order)

use Rattle.std.specs.Ordering.{nat_cmp}
use Rattle.zb_line.proofs.OrderLemmas.{none_sorted}
use Rattle.zb_line.proofs.firsts.keys_if.Goals as goal

pub returns-else-holds-clause-order : goal.returns-else-holds-clause-order
returns-else-holds-clause-order c = rw c.if-holds.false (none_sorted nat_cmp)

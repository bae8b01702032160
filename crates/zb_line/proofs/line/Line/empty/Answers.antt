use Rattle.std.proofs.Common.{arith}
use Rattle.zb_line.proofs.OrderLemmas.{none_sorted}
use Rattle.zb_line.proofs.line.Line.empty.Goals as goal

pub invariant_of-result : goal.invariant_of-result
invariant_of-result g c = rw c.new.ensures.items (record { within = omega arith; order = none_sorted g.T.Ord.cmp })

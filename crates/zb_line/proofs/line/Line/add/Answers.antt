use Rattle.zb_line.proofs.OrderLemmas.{sorted_put}
use Rattle.zb_line.proofs.line.Line.add.Goals as goal

pub put-requires-clause-order : goal.put-requires-clause-order
put-requires-clause-order g c = sorted_put g.T.Ord.cmp g.met.T.Ord.total c.args.item c.args.self.now c.as_slice.result.now c.in-Err.place c.as_slice.ensures.items c.as_slice.ensures.order c.in-Err.ensures.free

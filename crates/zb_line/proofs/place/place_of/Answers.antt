use Rattle.std.proofs.Common.{sym, ap, ◌∙◌}
use Rattle.std.specs.Ordering.{is_lt}
use Rattle.zb_line.proofs.OrderLemmas.{is_behind}
use Rattle.zb_line.proofs.place.place_of.Goals as goal

pub returns-in-Some-clause-free : goal.returns-in-Some-clause-free
returns-in-Some-clause-free g c =
    is_behind g.T.Ord.cmp g.met.T.Ord.total c.args.item.now c.in-Some.last.now c.args.line.now c.requires (sym c.in-Some.ensures.value)
    (ap is_lt (sym c.cmp.ensures) ∙ (sym c.is_lt.ensures ∙ c.if-is_lt.true))

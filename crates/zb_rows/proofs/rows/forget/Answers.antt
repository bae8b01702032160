use Rattle.std.proofs.Common.{Bool, false, cond, ap, ◌∙◌}
use Rattle.zb_pairs.specs.Pairs.{has_pair}
use Rattle.zb_pairs.proofs.PairLemmas.{same_place}
use Rattle.zb_rows.proofs.rows.forget.Goals as goal

pub returns-in-Some : goal.returns-in-Some
returns-in-Some c n k = rw c.in-Some.is (c.remove.ensures.updates.0 (n, k) ∙ ap (λ (t : Bool). cond t false (has_pair c.args.cells.now n k)) (same_place c.in-Some.cell c.args.key n k))

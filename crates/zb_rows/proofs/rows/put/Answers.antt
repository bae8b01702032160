use Rattle.std.proofs.Common.{Bool, true, cond, ap, ◌∙◌}
use Rattle.zb_pairs.specs.Pairs.{has_pair}
use Rattle.zb_pairs.proofs.PairLemmas.{same_place}
use Rattle.zb_rows.proofs.rows.put.Goals as goal

pub returns-in_ok-insert-clause-ok : goal.returns-in_ok-insert-clause-ok
returns-in_ok-insert-clause-ok c n k = rw c.in-Some.is (c.in_ok-insert.ensures.updates.0 (n, k) ∙ ap (λ (t : Bool). cond t true (has_pair c.args.cells.now n k)) (same_place c.in-Some.cell c.args.key n k))

use Rattle.std.proofs.Common.{◌≡◌, take}
use Rattle.zb_arrivals.proofs.GreatestLemmas.{best_of}
use Rattle.zb_arrivals.proofs.others.greatest.Given as goal

-- the greatest of those so far
abbrev pub invariant-loop-row : goal.invariant-loop-row
invariant-loop-row g l = l.best ≡ best_of g.R.Row.key_in (g.Q.Query.passes l.query) (take l.row-index l.rows)

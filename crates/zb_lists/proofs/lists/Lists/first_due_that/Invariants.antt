use Rattle.std.proofs.Common.{◌≡◌, drop}
use Rattle.std.specs.List.{find}
use Rattle.zb_lists.specs.Moments.{IsTimeOrdered}
use Rattle.zb_lists.specs.Listed.{moments_of}
use Rattle.zb_lists.proofs.lists.Lists.first_due_that.Given as goal

-- the first pair that passes is still to come
abbrev pub invariant-loop-pair : goal.invariant-loop-pair
invariant-loop-pair g l = (find (λ p. g.Q.Query.passes l.query p.1) (drop l.pair-index l.pair-items) ≡ find (λ p. g.Q.Query.passes l.query p.1) (moments_of l.self)) × IsTimeOrdered (drop l.pair-index l.pair-items)

use Rattle.std.proofs.Common.{◌≡◌}
use Rattle.std.specs.List.{find}
use Rattle.zb_pairs.specs.Pairs.{keys_under}
use Rattle.zb_pairs.proofs.UnderLemmas.{RiseFrom}
use Rattle.zb_pairs.proofs.under.first_under_that.Given as goal

-- of the keys that are left the first that passes is that of all, and no lower number is to come
abbrev pub invariant-loop-pair : goal.invariant-loop-pair
invariant-loop-pair g l =
    (find (g.Q.Query.passes l.query) (keys_under l.number l.pair-iterator) ≡ find (g.Q.Query.passes l.initial.query) (keys_under l.initial.number l.initial.pairs.keys))
    × RiseFrom l.number l.pair-iterator × (l.number ≡ l.initial.number)

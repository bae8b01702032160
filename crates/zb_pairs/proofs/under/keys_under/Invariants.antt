use Rattle.std.proofs.Common.{◌≡◌, ◌++◌}
use Rattle.zb_pairs.specs.Pairs.{keys_under}
use Rattle.zb_pairs.proofs.UnderLemmas.{RiseFrom}
use Rattle.zb_pairs.proofs.under.keys_under.Given as goal

-- the keys that were passed are those of the cell in front of the others, and no lower cell is to come
abbrev pub invariant-loop-pair : goal.invariant-loop-pair
invariant-loop-pair l =
    (l.keys.items ++ keys_under l.number l.pair-iterator ≡ keys_under l.initial.number l.initial.pairs.keys) × RiseFrom l.number l.pair-iterator × (l.number ≡ l.initial.number)

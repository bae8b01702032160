-- The members of a list in an expression.
use Rattle.std.proofs.Common.{◌≡◌, ◌+◌, max, List, [], ◌∷◌, ◌++◌, arith}
use Rattle.zb_process.specs.Tree.{Tree, trees_of, nesting, nesting_over}
use Rattle.zb_process.proofs.NestingLemmas.{nesting-member}
use Rattle.zb_process.specs.ExpressionLaws.{members_of, trees_spelled, list_spelled, trees_fit}

-- one more member
pub nesting-append : (ts : List Tree) (t : Tree) → nesting_over (trees_of (ts ++ t ∷ [])) ≡ max (nesting_over (trees_of ts)) (nesting t + 1)
nesting-append [] t = omega arith
nesting-append (u ∷ ts) t = omega (arith, nesting-append ts t)

pub ruleset members = (members_of, trees_spelled, list_spelled, trees_fit, nesting-append, nesting-member)

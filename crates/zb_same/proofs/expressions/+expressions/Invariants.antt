use Rattle.std.proofs.Common.{◌≡◌, ◌+◌, ◌*◌, take}
use Rattle.zb_process.specs.Tree.{nesting, nesting_over, trees_of}
use Rattle.zb_process.specs.ExprView.{tree_of}
use Rattle.zb_same.proofs.expressions.+expressions.Given as goal

abbrev pub decreases-is_same_expr : goal.decreases-is_same_expr
decreases-is_same_expr a = 3 * nesting a.one.now + 2

abbrev pub decreases-is_same_node : goal.decreases-is_same_node
decreases-is_same_node a = 3 * nesting (tree_of a.one.now) + 1

abbrev pub decreases-are_same_exprs : goal.decreases-are_same_exprs
decreases-are_same_exprs a = 3 * nesting_over (trees_of a.these.now)

-- the members so far are the same
abbrev pub invariant-are_same_exprs-loop-place : goal.invariant-are_same_exprs-loop-place
invariant-are_same_exprs-loop-place l = take l.place l.these ≡ take l.place l.those

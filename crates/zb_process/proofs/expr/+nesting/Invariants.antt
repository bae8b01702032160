use Rattle.std.proofs.Common.{◌≡◌, ◌+◌, ◌*◌, take}
use Rattle.zb_process.specs.Tree.{nesting, nesting_over, trees_of}
use Rattle.zb_process.specs.ExprView.{tree_of}
use Rattle.zb_process.proofs.expr.+nesting.Given as goal

abbrev pub decreases-Expr::nesting : goal.decreases-Expr::nesting
decreases-Expr::nesting a = 3 * nesting a.self.now + 2

abbrev pub decreases-node_nesting : goal.decreases-node_nesting
decreases-node_nesting a = 3 * nesting (tree_of a.node.now) + 1

abbrev pub decreases-members_nesting : goal.decreases-members_nesting
decreases-members_nesting a = 3 * nesting_over (trees_of a.members.now)

-- the most so far
abbrev pub invariant-members_nesting-loop-member : goal.invariant-members_nesting-loop-member
invariant-members_nesting-loop-member l = l.most ≡ nesting_over (trees_of (take l.member-index l.members))

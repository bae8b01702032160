use Rattle.std.proofs.Common.{◌≡◌, ◌+◌, ◌*◌, take}
use Rattle.zb_process.specs.Tree.{nesting, nesting_over, trees_of}
use Rattle.zb_process.specs.ExprView.{tree_of}
use Rattle.zb_process.proofs.expr.+copy.Given as goal

abbrev pub decreases-copy_expr : goal.decreases-copy_expr
decreases-copy_expr a = 3 * nesting a.expr.now + 2

abbrev pub decreases-copy_node : goal.decreases-copy_node
decreases-copy_node a = 3 * nesting (tree_of a.node.now) + 1

abbrev pub decreases-copy_members : goal.decreases-copy_members
decreases-copy_members a = 3 * nesting_over (trees_of a.members.now)

-- what is copied so far
abbrev pub invariant-copy_members-loop-member : goal.invariant-copy_members-loop-member
invariant-copy_members-loop-member l = l.copies.items ≡ take l.member-index l.members

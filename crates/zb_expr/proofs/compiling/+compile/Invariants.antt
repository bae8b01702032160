use Rattle.std.proofs.Common.{◌+◌, ◌*◌, take}
use Rattle.zb_process.specs.Tree.{nesting, nesting_over, trees_of}
use Rattle.zb_process.specs.ExprView.{tree_of}
use Rattle.zb_expr.specs.Postfix.{WritesMore}
use Rattle.zb_expr.proofs.compiling.+compile.Given as goal

abbrev pub decreases-put_expr : goal.decreases-put_expr
decreases-put_expr a = 4 * nesting a.expr.now + 3

abbrev pub decreases-put_node : goal.decreases-put_node
decreases-put_node a = 4 * nesting (tree_of a.node.now) + 2

abbrev pub decreases-put_list : goal.decreases-put_list
decreases-put_list a = 4 * nesting_over (trees_of a.members.now) + 1

abbrev pub decreases-put_members : goal.decreases-put_members
decreases-put_members a = 4 * nesting_over (trees_of a.members.now)

-- the members so far are written
abbrev pub invariant-put_members-loop-member : goal.invariant-put_members-loop-member
invariant-put_members-loop-member l = WritesMore l.fn.code (take l.member-index l.members) l.code

use Rattle.std.proofs.Common.{◌+◌, ◌*◌, ◌∷◌, length, max, take}
use Rattle.zb_process.specs.Tree.{nesting, nesting_over, trees_of}
use Rattle.zb_process.specs.ExprView.{tree_of}
use Rattle.zb_process.specs.Expression.{tree, IsTree}
use Rattle.zb_format.specs.Field.{number_bytes}
use Rattle.zb_format.proofs.Adding.{Written}
use Rattle.zb_process.proofs.expression.writing.+write.Given as goal

abbrev pub decreases-write_tree : goal.decreases-write_tree
decreases-write_tree a = 4 * nesting a.expr.now + 2

abbrev pub decreases-write_node : goal.decreases-write_node
decreases-write_node a = 4 * nesting (tree_of a.node.now) + 1

abbrev pub decreases-write_unary : goal.decreases-write_unary
decreases-write_unary a = 4 * nesting a.operand.now + 3

abbrev pub decreases-write_binary : goal.decreases-write_binary
decreases-write_binary a = 4 * max (nesting a.left.now) (nesting a.right.now) + 4

abbrev pub decreases-write_members : goal.decreases-write_members
decreases-write_members a = 4 * nesting_over (trees_of a.members.now)

-- the byte of lists, the length and the members so far have been added
abbrev pub invariant-write_members-loop-member : goal.invariant-write_members-loop-member
invariant-write_members-loop-member l = Written tree IsTree l.fn.encoder (4 ∷ number_bytes (length l.members)) (take l.member-index l.members) l.encoder

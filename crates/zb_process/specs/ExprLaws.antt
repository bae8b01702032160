-- The parts of an expression are less deep than the expression. The code cites this where it says what an expression is, so it stands beside the definitions.
use Rattle.std.specs.Prelude.{◌+◌, ◌≤◌, max, List, [], ◌∷◌}
use Rattle.std.proofs.Common.{arith}
use denote.Param.Weighed.{most}
use Rattle.zb_process.specs.Tree.{Tree, trees_of, nesting, nesting_over}
use Rattle.zb_process.specs.ExprView.{tree_of}
use Rattle.zb_process.specs.declared.expr.ExprNode.{ExprNode}
use Rattle.zb_process.specs.declared.expr.ExprNode.TheVariants as nodes
use Rattle.zb_process.specs.declared.expr.Expr.TheDeep.{deep-ExprNode}

-- no member is deeper than the list
pub most_members : (ts : List Tree) → most (λ t. nesting t + 1) ts ≤ nesting_over (trees_of ts)
most_members [] = omega arith
most_members (t ∷ ts) = omega (arith, most_members ts)

-- no part of a node is deeper than the node
pub parts_below : (n : ExprNode) → max (deep-ExprNode n) 0 ≤ nesting (tree_of n)
parts_below (nodes.Int z) = omega arith
parts_below (nodes.Bool b) = omega arith
parts_below (nodes.Text t) = omega arith
parts_below (nodes.Name t) = omega arith
parts_below (nodes.List ts) = omega (arith, most_members ts.items)
parts_below (nodes.Not t) = omega arith
parts_below (nodes.Minus t) = omega arith
parts_below (nodes.Binary o a b) = omega arith

-- What an expression of the program is seen as.
use Rattle.zb_process.specs.Tree.{Tree, Int, Truth, Text, Name, Members, Not, Minus, Binary, trees_of}
use Rattle.zb_process.specs.declared.expr.ExprNode.{ExprNode}
use Rattle.zb_process.specs.declared.expr.ExprNode.TheVariants as nodes

-- the tree of a node
abbrev pub tree_of : ExprNode → Tree
tree_of (nodes.Int z) = Int z
tree_of (nodes.Bool b) = Truth b
tree_of (nodes.Text t) = Text t
tree_of (nodes.Name t) = Name t
tree_of (nodes.List ts) = Members (trees_of ts.items)
tree_of (nodes.Not t) = Not t.value
tree_of (nodes.Minus t) = Minus t.value
tree_of (nodes.Binary o a b) = Binary o a.value b.value

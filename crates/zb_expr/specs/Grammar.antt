-- The grammar of expressions, over tokens: an expression as it is written, and the tokens that it is written in.
use Rattle.std.specs.Prelude.{◌≡◌, ℕ, ◌+◌, ◌<◌, ◌≤◌, max, List, [], ◌∷◌}
use Rattle.zb_process.specs.declared.operator.Operator.{Operator}
use Rattle.zb_process.specs.declared.operator.Operator.TheVariants as operators
use Rattle.zb_process.specs.Tree as trees
use Rattle.zb_process.specs.Tree.{Tree, trees_of}
use Rattle.zb_expr.specs.declared.token.Leaf.{Leaf}
use Rattle.zb_expr.specs.declared.token.Leaf.TheVariants as leaves
use Rattle.zb_expr.specs.declared.token.Token.{Token}
use Rattle.zb_expr.specs.declared.token.Token.TheVariants as tokens

mutual
  -- an expression as it is written, with its pairs of parentheses
  pub data Form : Type 0 where
    Alone : Leaf → Form
    Group : Form → Form
    Negation : Form → Form
    Minus : Form → Form
    Members : Forms → Form
    Binary : Operator → Form → Form → Form

  -- the members of a list as they are written
  pub data Forms : Type 0 where
    none : Forms
    more : Form → Forms → Forms

-- how tightly an operator binds
unfoldable pub level_of : Operator → ℕ
level_of operators.Or = 1
level_of operators.And = 2
level_of operators.Equal = 3
level_of operators.NotEqual = 3
level_of operators.Less = 3
level_of operators.AtMost = 3
level_of operators.Greater = 3
level_of operators.AtLeast = 3
level_of operators.Add = 4
level_of operators.Subtract = 4
level_of operators.Multiply = 5

-- how tightly its left operand binds at least: an operator may be the left operand of one that binds as tightly, but no comparison of a comparison
unfoldable pub left_level : Operator → ℕ
left_level operators.Or = 1
left_level operators.And = 2
left_level operators.Equal = 4
left_level operators.NotEqual = 4
left_level operators.Less = 4
left_level operators.AtMost = 4
left_level operators.Greater = 4
left_level operators.AtLeast = 4
left_level operators.Add = 4
left_level operators.Subtract = 4
left_level operators.Multiply = 5

-- how tightly a form binds: a sign more than any operator, and what needs no parentheses most of all
abbrev pub level : Form → ℕ
level (Alone l) = 7
level (Group a) = 7
level (Negation a) = 7
level (Minus a) = 6
level (Members ms) = 7
level (Binary o a b) = level_of o

abbrev mutual
  -- operands bind as tightly as they have to, the right one more tightly than its operator
  pub IsFormed : Form → Type 0
  IsFormed (Alone l) = Unit {0}
  IsFormed (Group a) = IsFormed a
  IsFormed (Negation a) = IsFormed a
  IsFormed (Minus a) = (6 ≤ level a) × IsFormed a
  IsFormed (Members ms) = AreFormed ms
  IsFormed (Binary o a b) = (left_level o ≤ level a) × (level_of o < level b) × IsFormed a × IsFormed b

  -- the same of members
  pub AreFormed : Forms → Type 0
  AreFormed none = Unit {0}
  AreFormed (more a ms) = IsFormed a × AreFormed ms

abbrev mutual
  -- how many operators, nots, lists and pairs of parentheses stand around the leaf that has the most; a list without members is a leaf
  pub around : Form → ℕ
  around (Alone l) = 0
  around (Group a) = around a + 1
  around (Negation a) = around a + 1
  around (Minus a) = around a + 1
  around (Members ms) = around_members ms
  around (Binary o a b) = max (around a) (around b) + 1

  -- the same for members, their list included
  pub around_members : Forms → ℕ
  around_members none = 0
  around_members (more a ms) = max (around a + 1) (around_members ms)

abbrev mutual
  -- the tokens of a form, and these behind them
  pub written : Form → List Token → List Token
  written (Alone l) rest = tokens.Leaf l ∷ rest
  written (Group a) rest = tokens.Open ∷ written a (tokens.Close ∷ rest)
  written (Negation a) rest = tokens.Not ∷ tokens.Open ∷ written a (tokens.Close ∷ rest)
  written (Minus a) rest = tokens.Operator operators.Subtract ∷ written a rest
  written (Members none) rest = tokens.OpenList ∷ tokens.CloseList ∷ rest
  written (Members (more a ms)) rest = tokens.OpenList ∷ written a (written_behind ms rest)
  written (Binary o a b) rest = written a (tokens.Operator o ∷ written b rest)

  -- the tokens of further members, up to the end of their list, and these behind them
  pub written_behind : Forms → List Token → List Token
  written_behind none rest = tokens.CloseList ∷ rest
  written_behind (more a ms) rest = tokens.Comma ∷ written a (written_behind ms rest)

-- the tree of a leaf
abbrev pub leaf_tree : Leaf → Tree
leaf_tree (leaves.Int z) = trees.Int z
leaf_tree (leaves.Bool b) = trees.Truth b
leaf_tree (leaves.Text t) = trees.Text t
leaf_tree (leaves.Name t) = trees.Name t

abbrev mutual
  -- the tree that a form writes: parentheses are no part of it
  pub form_tree : Form → Tree
  form_tree (Alone l) = leaf_tree l
  form_tree (Group a) = form_tree a
  form_tree (Negation a) = trees.Not (form_tree a)
  form_tree (Minus a) = trees.Minus (form_tree a)
  form_tree (Members ms) = trees.Members (trees_of (form_trees ms))
  form_tree (Binary o a b) = trees.Binary o (form_tree a) (form_tree b)

  -- the trees of members
  pub form_trees : Forms → List Tree
  form_trees none = []
  form_trees (more a ms) = form_tree a ∷ form_trees ms

-- these tokens are an expression, which has this tree
pub record AreExpression (written_tokens : List Token) (tree : Tree) : Type 0 where
  pub form : Form
  pub formed : IsFormed form
  pub few : around form ≤ 64
  pub tokens : written form [] ≡ written_tokens
  pub is : form_tree form ≡ tree

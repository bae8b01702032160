-- The spelling of expressions: a byte for the kind, and then the parts.
use Rattle.std.specs.Prelude.{ℕ, zero, suc, ◌+◌, ◌<◌, ◌^◌, None, List, [], ◌∷◌, ◌++◌}
use Rattle.zb_process.specs.declared.operator.Operator.{Operator}
use Rattle.zb_process.specs.declared.operator.Operator.TheVariants as operators
use Rattle.zb_process.specs.Tree.{Tree, Trees, Int, Truth, Text, Name, Members, Not, Minus, Binary, none, more, trees_of, nesting}
use Rattle.zb_format.specs.Field.{number_bytes, signed_bytes, flag_bytes, text_bytes}
use Rattle.zb_format.specs.Fits.{IsSigned, IsText}
use Rattle.zb_format.specs.Reading.{◌>>=◌, Reader, both_at, made_at, one_of, tagged_at, arm, counted_at, signed_at, flag_at, text_at}

-- the byte of an operator
abbrev pub operator : Operator → ℕ
operator operators.Add = 7
operator operators.Subtract = 8
operator operators.Multiply = 9
operator operators.Equal = 10
operator operators.NotEqual = 11
operator operators.Less = 12
operator operators.AtMost = 13
operator operators.Greater = 14
operator operators.AtLeast = 15
operator operators.And = 16
operator operators.Or = 17

-- how many members a list has
abbrev pub members : Trees → ℕ
members none = 0
members (more t ts) = members ts + 1

abbrev mutual
  -- an expression
  pub tree : Tree → List ℕ
  tree (Int z) = 0 ∷ signed_bytes z
  tree (Truth b) = 1 ∷ flag_bytes b
  tree (Text t) = 2 ∷ text_bytes t
  tree (Name t) = 3 ∷ text_bytes t
  tree (Members ts) = 4 ∷ (number_bytes (members ts) ++ trees ts)
  tree (Not t) = 5 ∷ tree t
  tree (Minus t) = 6 ∷ tree t
  tree (Binary o a b) = operator o ∷ (tree a ++ tree b)

  -- the members of a list, one after another
  pub trees : Trees → List ℕ
  trees none = []
  trees (more t ts) = tree t ++ trees ts

abbrev mutual
  -- an expression whose numbers, texts and lists fit their bytes
  pub IsTree : Tree → Type 0
  IsTree (Int z) = IsSigned z
  IsTree (Truth b) = Unit {0}
  IsTree (Text t) = IsText t
  IsTree (Name t) = IsText t
  IsTree (Members ts) = (members ts < 2 ^ 32) × AreTrees ts
  IsTree (Not t) = IsTree t
  IsTree (Minus t) = IsTree t
  IsTree (Binary o a b) = IsTree a × IsTree b

  -- the same of the members of a list
  pub AreTrees : Trees → Type 0
  AreTrees none = Unit {0}
  AreTrees (more t ts) = IsTree t × AreTrees ts

-- an expression of fewer levels: less than so many expressions stand around each of its leaves
abbrev pub IsBelow : ℕ → Tree → Type 0
IsBelow levels t = IsTree t × (nesting t < levels)

-- an expression that has a spelling: at most 64 expressions stand around one leaf
abbrev pub IsExpression : Tree → Type 0
IsExpression t = IsBelow 65 t

-- each operator
abbrev pub each_operator : List Operator
each_operator = operators.Add ∷ operators.Subtract ∷ operators.Multiply ∷ operators.Equal ∷ operators.NotEqual ∷ operators.Less ∷ operators.AtMost ∷ operators.Greater ∷ operators.AtLeast ∷ operators.And ∷ operators.Or ∷ []

-- behind the byte of an operator, its two operands
abbrev pub operator_arm : Reader Tree → ℕ → Reader Tree
operator_arm part tag bytes = do
  o ← one_of operator each_operator tag
  made_at (λ p. Binary o p.0 p.1) (both_at part part) bytes

-- an expression whose parts are read so
abbrev pub tree_with : Reader Tree → Reader Tree
tree_with part = tagged_at (arm 0 Int signed_at (arm 1 Truth flag_at (arm 2 Text text_at (arm 3 Name text_at
    (arm 4 (λ ts. Members (trees_of ts)) (counted_at part) (arm 5 Not part (arm 6 Minus part (operator_arm part))))))))

-- an expression of fewer levels
unfoldable pub tree_at : ℕ → Reader Tree
tree_at zero bytes = None
tree_at (suc levels) bytes = tree_with (tree_at levels) bytes

-- an expression
abbrev pub expression_at : Reader Tree
expression_at = tree_at 65

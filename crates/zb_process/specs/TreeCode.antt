-- How the logic stores an expression: each constructor has a number, and its parts stand behind it.
use Rattle.std.specs.Prelude.{◌≡◌, ℕ, pos, negsuc, true, false, cond, ◌==◌, List, [], ◌∷◌, refl}
use Rattle.std.specs.Coded.{Coded, code_by}
use base.Stored.{Gv, gnil, gnum, gcons, num}
use denote.Struct.Codes.{itself}
use mathlib.Core.Path.{ap}
use Rattle.zb_process.specs.declared.operator.Operator.{Operator}
use Rattle.zb_process.specs.declared.operator.Operator.TheVariants as operators
use Rattle.zb_process.specs.Tree.{Tree, Trees, Int, Truth, Text, Name, Members, Not, Minus, Binary, none, more}

-- the number of an operator
abbrev pub operator_number : Operator → ℕ
operator_number operators.Add = 0
operator_number operators.Subtract = 1
operator_number operators.Multiply = 2
operator_number operators.Equal = 3
operator_number operators.NotEqual = 4
operator_number operators.Less = 5
operator_number operators.AtMost = 6
operator_number operators.Greater = 7
operator_number operators.AtLeast = 8
operator_number operators.And = 9
operator_number operators.Or = 10

-- the operator with this number
abbrev pub operator_at : ℕ → Operator
operator_at n =
    cond (n == 0) operators.Add (cond (n == 1) operators.Subtract (cond (n == 2) operators.Multiply (cond (n == 3) operators.Equal (cond (n == 4) operators.NotEqual
    (cond (n == 5) operators.Less (cond (n == 6) operators.AtMost (cond (n == 7) operators.Greater (cond (n == 8) operators.AtLeast (cond (n == 9) operators.And operators.Or)))))))))

-- an operator's number finds it again
pub operator_back : (o : Operator) → operator_at (operator_number o) ≡ o
operator_back operators.Add = refl
operator_back operators.Subtract = refl
operator_back operators.Multiply = refl
operator_back operators.Equal = refl
operator_back operators.NotEqual = refl
operator_back operators.Less = refl
operator_back operators.AtMost = refl
operator_back operators.Greater = refl
operator_back operators.AtLeast = refl
operator_back operators.And = refl
operator_back operators.Or = refl

-- bytes, stored as a list of numbers
abbrev pub bytes_stored : List ℕ → Gv
bytes_stored [] = gnil
bytes_stored (n ∷ ns) = gcons (gnum n) (bytes_stored ns)

-- the bytes that are stored so
abbrev pub bytes_at : Gv → List ℕ
bytes_at gnil = []
bytes_at (gnum n) = []
bytes_at (gcons g h) = num g ∷ bytes_at h

-- bytes that were stored are found again
pub bytes_back : (ns : List ℕ) → bytes_at (bytes_stored ns) ≡ ns
bytes_back [] = refl
bytes_back (n ∷ ns) = ap (λ (ms : List ℕ). n ∷ ms) (bytes_back ns)

abbrev mutual
  -- an expression, stored: its number, and its parts behind it
  pub stored : Tree → Gv
  stored (Int (pos n)) = gcons (gnum 0) (gnum n)
  stored (Int (negsuc n)) = gcons (gnum 1) (gnum n)
  stored (Truth true) = gcons (gnum 2) gnil
  stored (Truth false) = gcons (gnum 3) gnil
  stored (Text t) = gcons (gnum 4) (bytes_stored t)
  stored (Name t) = gcons (gnum 5) (bytes_stored t)
  stored (Members ts) = gcons (gnum 6) (all_stored ts)
  stored (Not t) = gcons (gnum 7) (stored t)
  stored (Minus t) = gcons (gnum 8) (stored t)
  stored (Binary o a b) = gcons (gnum 9) (gcons (gnum (operator_number o)) (gcons (stored a) (stored b)))

  -- members, stored one behind the other
  pub all_stored : Trees → Gv
  all_stored none = gnil
  all_stored (more t ts) = gcons (stored t) (all_stored ts)

-- the number that stands first
abbrev pub first_number : Gv → ℕ
first_number gnil = 0
first_number (gnum n) = 0
first_number (gcons g h) = num g

-- the tree with this number, from its parts as a number, a text, members, one tree, and an operator between two trees
abbrev pub tree_by : ℕ → ℕ → List ℕ → Trees → Tree → Operator → Tree → Tree → Tree
tree_by k n t ts one o a b =
    cond (k == 0) (Int (pos n)) (cond (k == 1) (Int (negsuc n)) (cond (k == 2) (Truth true) (cond (k == 3) (Truth false) (cond (k == 4) (Text t)
    (cond (k == 5) (Name t) (cond (k == 6) (Members ts) (cond (k == 7) (Not one) (cond (k == 8) (Minus one) (Binary o a b)))))))))

abbrev mutual
  -- the expression that is stored so
  pub tree_from : Gv → Tree
  tree_from gnil = Truth true
  tree_from (gnum n) = Truth true
  tree_from (gcons g h) = tree_by (num g) (num h) (bytes_at h) (members_at h) (tree_from h) (operator_at (first_number h)) (left_at h) (right_at h)

  -- the members that are stored so
  pub members_at : Gv → Trees
  members_at gnil = none
  members_at (gnum n) = none
  members_at (gcons g h) = more (tree_from g) (members_at h)

  -- the left operand, which stands behind the operator
  pub left_at : Gv → Tree
  left_at gnil = Truth true
  left_at (gnum n) = Truth true
  left_at (gcons g h) = first_at h

  -- the right operand, which stands behind the left one
  pub right_at : Gv → Tree
  right_at gnil = Truth true
  right_at (gnum n) = Truth true
  right_at (gcons g h) = second_at h

  -- the expression that stands first
  pub first_at : Gv → Tree
  first_at gnil = Truth true
  first_at (gnum n) = Truth true
  first_at (gcons g h) = tree_from g

  -- the expression that stands behind the first part
  pub second_at : Gv → Tree
  second_at gnil = Truth true
  second_at (gnum n) = Truth true
  second_at (gcons g h) = tree_from h

mutual
  -- an expression that was stored is found again
  pub tree_back : (t : Tree) → tree_from (stored t) ≡ t
  tree_back (Int (pos n)) = refl
  tree_back (Int (negsuc n)) = refl
  tree_back (Truth true) = refl
  tree_back (Truth false) = refl
  tree_back (Text t) = ap Text (bytes_back t)
  tree_back (Name t) = ap Name (bytes_back t)
  tree_back (Members ts) = ap Members (members_back ts)
  tree_back (Not t) = ap Not (tree_back t)
  tree_back (Minus t) = ap Minus (tree_back t)
  tree_back (Binary o a b) = λ i. Binary (operator_back o i) (tree_back a i) (tree_back b i)

  -- members that were stored are found again
  pub members_back : (ts : Trees) → members_at (all_stored ts) ≡ ts
  members_back none = refl
  members_back (more t ts) = λ i. more (tree_back t i) (members_back ts i)

-- the code of an expression
abbrev pub tree_code : Coded Tree
tree_code = code_by Gv itself stored tree_from tree_back

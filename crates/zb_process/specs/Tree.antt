-- Expressions as trees.
use Rattle.std.specs.Prelude.{ℕ, ◌+◌, max, ℤ, Bool, List, [], ◌∷◌}
use Rattle.zb_process.specs.declared.operator.Operator.{Operator}

mutual
  -- an expression
  pub data Tree : Type 0 where
    Int : ℤ → Tree
    Truth : Bool → Tree
    Text : List ℕ → Tree
    Name : List ℕ → Tree
    Members : Trees → Tree
    Not : Tree → Tree
    Minus : Tree → Tree
    Binary : Operator → Tree → Tree → Tree

  -- the members of a list
  pub data Trees : Type 0 where
    none : Trees
    more : Tree → Trees → Trees

-- the members, from a list of them
abbrev pub trees_of : List Tree → Trees
trees_of [] = none
trees_of (t ∷ ts) = more t (trees_of ts)

abbrev mutual
  -- how many expressions stand around the leaf that has the most; a list without members is a leaf
  pub nesting : Tree → ℕ
  nesting (Int z) = 0
  nesting (Truth b) = 0
  nesting (Text t) = 0
  nesting (Name t) = 0
  nesting (Members ts) = nesting_over ts
  nesting (Not t) = nesting t + 1
  nesting (Minus t) = nesting t + 1
  nesting (Binary o a b) = max (nesting a) (nesting b) + 1

  -- the same for the members of a list, the list included
  pub nesting_over : Trees → ℕ
  nesting_over none = 0
  nesting_over (more t ts) = max (nesting t + 1) (nesting_over ts)

-- How trees are printed, worked out by hand.
use Rattle.std.proofs.Common.{◌≡◌, pos, [], ◌∷◌, ◌++◌, refl}
use Rattle.std.specs.Prelude.{codes}
use Rattle.std.specs.Fmt.{digits}
use Rattle.zb_process.specs.declared.operator.Operator.TheVariants.{Add, Subtract, Multiply, Equal, And}
use Rattle.zb_process.specs.Tree.{Int, Text, Name, Members, Not, Minus, Binary, none, more}
use Rattle.zb_expr.specs.Grammar.{level_of, left_level}
use Rattle.zb_expr.specs.Printing.{printed}

-- a sum in a product needs parentheses
pub sum_in_a_product : printed (Binary Multiply (Binary Add (Int (pos 1)) (Int (pos 2))) (Int (pos 30))) ≡ codes "(1 + 2) * 30"
unfolding level_of left_level digits
sum_in_a_product = refl

-- a product in a sum doesn't, and a difference only on the right
pub on_the_right : printed (Binary Subtract (Binary Subtract (Int (pos 1)) (Int (pos 2))) (Binary Subtract (Int (pos 3)) (Binary Multiply (Int (pos 4)) (Int (pos 5))))) ≡ codes "1 - 2 - (3 - 4 * 5)"
unfolding level_of left_level digits
on_the_right = refl

-- a sign stands before a sum in parentheses, and members have a comma between them
pub list : printed (Members (more (Minus (Binary Add (Name (codes "a")) (Int (pos 1)))) (more (Members none) none))) ≡ codes "[-(a + 1), []]"
unfolding level_of left_level digits
list = refl

-- words, and a text with a quote in it
pub quote : printed (Binary And (Not (Name (codes "a"))) (Binary Equal (Name (codes "b")) (Text (97 ∷ 34 ∷ [])))) ≡ codes "not(a) and b = " ++ (34 ∷ 97 ∷ 92 ∷ 34 ∷ 34 ∷ [])
unfolding level_of left_level
quote = refl

-- How tightly operators and forms bind.
use Rattle.std.proofs.Common.{◌≡◌, ℕ, ◌<◌, ◌≤◌, true, false, nat_lt, Option, Some, None, refl, arith, lit≤}
use Rattle.std.proofs.lemmas.Bool.Decides.{nat_tests}
use Rattle.zb_process.specs.declared.operator.Operator.{Operator}
use Rattle.zb_process.specs.declared.operator.Operator.TheVariants as operators
use Rattle.zb_expr.specs.Grammar.{Form, Alone, Group, Negation, Minus, Members, Binary, level, level_of, left_level}
use Rattle.zb_expr.specs.Reading.{operator_on}

-- each operator binds at least a little, and less than a sign
pub level_of-between : (o : Operator) → (1 ≤ level_of o) × (level_of o ≤ 5)
unfolding level_of
level_of-between operators.Add = (lit≤ tt, lit≤ tt)
level_of-between operators.Subtract = (lit≤ tt, lit≤ tt)
level_of-between operators.Multiply = (lit≤ tt, lit≤ tt)
level_of-between operators.Equal = (lit≤ tt, lit≤ tt)
level_of-between operators.NotEqual = (lit≤ tt, lit≤ tt)
level_of-between operators.Less = (lit≤ tt, lit≤ tt)
level_of-between operators.AtMost = (lit≤ tt, lit≤ tt)
level_of-between operators.Greater = (lit≤ tt, lit≤ tt)
level_of-between operators.AtLeast = (lit≤ tt, lit≤ tt)
level_of-between operators.And = (lit≤ tt, lit≤ tt)
level_of-between operators.Or = (lit≤ tt, lit≤ tt)

-- the left operand binds at least as tightly as the operator
pub left_level-least : (o : Operator) → level_of o ≤ left_level o
unfolding level_of left_level
left_level-least operators.Add = lit≤ tt
left_level-least operators.Subtract = lit≤ tt
left_level-least operators.Multiply = lit≤ tt
left_level-least operators.Equal = lit≤ tt
left_level-least operators.NotEqual = lit≤ tt
left_level-least operators.Less = lit≤ tt
left_level-least operators.AtMost = lit≤ tt
left_level-least operators.Greater = lit≤ tt
left_level-least operators.AtLeast = lit≤ tt
left_level-least operators.And = lit≤ tt
left_level-least operators.Or = lit≤ tt

-- so does each form
pub level-some : (f : Form) → 1 ≤ level f
level-some (Alone l) = lit≤ tt
level-some (Group a) = lit≤ tt
level-some (Negation a) = lit≤ tt
level-some (Minus a) = lit≤ tt
level-some (Members ms) = lit≤ tt
level-some (Binary o a b) = (level_of-between o).0

-- an operator that is too loose doesn't go on
pub operator_on-none : (least tight : ℕ) (found : Option Operator) → ((o : Operator) → found ≡ Some o → level_of o < least) → operator_on least tight found ≡ None
operator_on-none least tight None h = refl
operator_on-none least tight (Some o) h =
    let loose : level_of o < least = h o refl in
    let low : nat_lt (level_of o) least ≡ true = grind (arith, nat_tests) in
    rw low

-- one that binds tightly enough, and whose left operand does, goes on
pub operator_on-some : (least tight : ℕ) (o : Operator) → least ≤ level_of o → left_level o ≤ tight → operator_on least tight (Some o) ≡ Some o
operator_on-some least tight o h k =
    let low : nat_lt (level_of o) least ≡ false = grind (arith, nat_tests) in
    let left : nat_lt tight (left_level o) ≡ false = grind (arith, nat_tests) in
    rw (low, left)

-- Texts and their trees, worked out by hand.
use Rattle.std.proofs.Common.{◌≡◌, pos, false, Some, None, [], ◌∷◌, refl}
use Rattle.std.specs.Prelude.{codes}
use Rattle.zb_process.specs.declared.operator.Operator.TheVariants.{Add, Subtract, Multiply, Equal, AtMost, And}
use Rattle.zb_process.specs.Tree.{Int, Name, Members, Not, Minus, Binary, none, more}
use Rattle.zb_expr.specs.Grammar.{level_of, left_level}
use Rattle.zb_expr.specs.Reading.{expr_read, part_at}
use Rattle.zb_expr.specs.Spelling.{token_at, quoted_after}

-- the greatest whole number is one, and a sum beyond it is an expression
pub one_number : expr_read (codes "9223372036854775807 + 1") ≡ Some (Binary Add (Int (pos 9223372036854775807)) (Int (pos 1)))
unfolding level_of left_level part_at token_at
one_number = refl

-- a sign binds more tightly than a difference
pub negative : expr_read (codes "-9223372036854775807 - 1") ≡ Some (Binary Subtract (Minus (Int (pos 9223372036854775807))) (Int (pos 1)))
unfolding level_of left_level part_at token_at
negative = refl

-- a product binds more tightly than a sum
pub tighter : expr_read (codes "1 + 2 * 3") ≡ Some (Binary Add (Int (pos 1)) (Binary Multiply (Int (pos 2)) (Int (pos 3))))
unfolding level_of left_level part_at token_at
tighter = refl

-- operators group to the left
pub to_the_left : expr_read (codes "1 - 2 - 3") ≡ Some (Binary Subtract (Binary Subtract (Int (pos 1)) (Int (pos 2))) (Int (pos 3)))
unfolding level_of left_level part_at token_at
to_the_left = refl

-- a comparison binds more tightly than an and
pub words : expr_read (codes "a = 1 and not(b)") ≡ Some (Binary And (Binary Equal (Name (codes "a")) (Int (pos 1))) (Not (Name (codes "b"))))
unfolding level_of left_level part_at token_at
words = refl

-- a list, with a space behind its comma
pub list : expr_read (codes "[1, -2]") ≡ Some (Members (more (Int (pos 1)) (more (Minus (Int (pos 2))) none)))
unfolding level_of left_level part_at token_at
list = refl

-- a list without members
pub empty_list : expr_read (codes "[]") ≡ Some (Members none)
unfolding level_of left_level part_at token_at
empty_list = refl

-- zeros may stand first
pub zeros : expr_read (codes "007") ≡ Some (Int (pos 7))
unfolding level_of left_level part_at token_at
zeros = refl

-- parentheses group
pub parentheses : expr_read (codes "(1 + 2) * 3") ≡ Some (Binary Multiply (Binary Add (Int (pos 1)) (Int (pos 2))) (Int (pos 3)))
unfolding level_of left_level part_at token_at
parentheses = refl

-- a word is read as far as it goes
pub word_whole : expr_read (codes "android") ≡ Some (Name (codes "android"))
unfolding level_of left_level part_at token_at
word_whole = refl

-- no space has to stand between
pub at_most : expr_read (codes "a<=1") ≡ Some (Binary AtMost (Name (codes "a")) (Int (pos 1)))
unfolding level_of left_level part_at token_at
at_most = refl

-- no space stands first
pub space_first : expr_read (codes " n") ≡ None
unfolding level_of left_level part_at token_at
space_first = refl

-- or last
pub space_last : expr_read (codes "n ") ≡ None
unfolding level_of left_level part_at token_at
space_last = refl

-- no comparison of a comparison
pub twice_compared : expr_read (codes "1 = 2 = 3") ≡ None
unfolding level_of left_level part_at token_at
twice_compared = refl

-- a word with a meaning is no name
pub and_alone : expr_read (codes "and") ≡ None
unfolding level_of left_level part_at token_at
and_alone = refl

-- 2 ^ 63 is no whole number here
pub too_great : expr_read (codes "9223372036854775808") ≡ None
unfolding level_of left_level part_at token_at
too_great = refl

-- nothing is no expression
pub nothing : expr_read (codes "") ≡ None
unfolding level_of left_level part_at token_at
nothing = refl

-- the signs of one operator stand together
pub two_signs : expr_read (codes "a < = 1") ≡ None
unfolding level_of left_level part_at token_at
two_signs = refl

-- what stands between quotes, up to the second one: a"b and a backslash
pub quoted : quoted_after false [] (97 ∷ 92 ∷ 34 ∷ 98 ∷ 34 ∷ 32 ∷ []) ≡ Some (97 ∷ 34 ∷ 98 ∷ [], 32 ∷ [])
quoted = refl

pub backslash : quoted_after false [] (92 ∷ 92 ∷ 34 ∷ []) ≡ Some (92 ∷ [], [])
backslash = refl

-- no other escape is one
pub other_escape : expr_read (34 ∷ 92 ∷ 110 ∷ 34 ∷ []) ≡ None
unfolding level_of left_level part_at token_at
other_escape = refl

-- The value of an expression: its operands are all evaluated, left to right, and the first fault is the answer.
use Rattle.std.specs.Prelude.{ℕ, ◌^◌, ℤ, ◌+ℤ◌, ◌-ℤ◌, ◌*ℤ◌, pos, neg_ℤ, int_lt, Bool, not, ◌&&◌, ◌||◌, Option, None, Some, Result, Ok, Err, List, [], ◌∷◌, if◌then◌else◌}
use Rattle.std.specs.Ordering.{int_cmp, int_eq, bool_cmp, nat_cmp, is_eq}
use Rattle.std.specs.Cmp.Lexicographic.{slice_cmp}
use Rattle.zb_base.specs.declared.value.Value.{Value}
use Rattle.zb_base.specs.declared.value.Value.TheVariants as values
use Rattle.zb_process.specs.declared.operator.Operator.{Operator}
use Rattle.zb_process.specs.declared.operator.Operator.TheVariants as operators
use Rattle.zb_process.specs.Tree.{Tree, Trees, Int, Truth, Text, Name, Members, Not, Minus, Binary, none, more}
use Rattle.zb_base.specs.Results.{◌>>=◌}

-- why an expression has no value
pub data ValueFault : Type 0 where
  -- a name has no value
  Unknown : ValueFault
  -- an operand or a member is of the wrong kind
  Kind : ValueFault
  -- a whole number is outside 64 bits
  Overflow : ValueFault

-- a whole number as a value
abbrev pub fitting : ℤ → Result Value ValueFault
fitting z = if not (int_lt z (neg_ℤ (pos (2 ^ 63)))) && int_lt z (pos (2 ^ 63)) then Ok (values.Int z) else Err Overflow

-- what two whole numbers give
abbrev pub of_numbers : (ℤ → ℤ → Result Value ValueFault) → Value → Value → Result Value ValueFault
of_numbers f (values.Int x) (values.Int y) = f x y
of_numbers f v w = Err Kind

-- what two truth values give
abbrev pub of_truths : (Bool → Bool → Bool) → Value → Value → Result Value ValueFault
of_truths f (values.Bool x) (values.Bool y) = Ok (values.Bool (f x y))
of_truths f v w = Err Kind

-- whether two values of one kind are equal
abbrev pub same : Value → Value → Result Bool ValueFault
same (values.Int x) (values.Int y) = Ok (int_eq x y)
same (values.Bool x) (values.Bool y) = Ok (is_eq (bool_cmp x y))
same (values.Text x) (values.Text y) = Ok (is_eq (slice_cmp nat_cmp x y))
same (values.List x) (values.List y) = Ok (is_eq (slice_cmp int_cmp x y))
same v w = Err Kind

-- the truth value, or the other one
abbrev pub told_as : (Bool → Bool) → Result Bool ValueFault → Result Value ValueFault
told_as f (Ok b) = Ok (values.Bool (f b))
told_as f (Err e) = Err e

-- a comparison of two whole numbers
abbrev pub comparison : (ℤ → ℤ → Bool) → ℤ → ℤ → Result Value ValueFault
comparison f x y = Ok (values.Bool (f x y))

-- the value of an operator between two values
abbrev pub between : Operator → Value → Value → Result Value ValueFault
between operators.Add v w = of_numbers (λ x y. fitting (x +ℤ y)) v w
between operators.Subtract v w = of_numbers (λ x y. fitting (x -ℤ y)) v w
between operators.Multiply v w = of_numbers (λ x y. fitting (x *ℤ y)) v w
between operators.Equal v w = told_as (λ b. b) (same v w)
between operators.NotEqual v w = told_as not (same v w)
between operators.Less v w = of_numbers (comparison (λ x y. int_lt x y)) v w
between operators.AtMost v w = of_numbers (comparison (λ x y. not (int_lt y x))) v w
between operators.Greater v w = of_numbers (comparison (λ x y. int_lt y x)) v w
between operators.AtLeast v w = of_numbers (comparison (λ x y. not (int_lt x y))) v w
between operators.And v w = of_truths (λ x y. x && y) v w
between operators.Or v w = of_truths (λ x y. x || y) v w

-- the other truth value
abbrev pub opposite : Value → Result Value ValueFault
opposite (values.Bool b) = Ok (values.Bool (not b))
opposite v = Err Kind

-- the whole number with the other sign
abbrev pub negative : Value → Result Value ValueFault
negative (values.Int z) = fitting (neg_ℤ z)
negative v = Err Kind

-- the whole numbers that all of these values are
abbrev pub whole_numbers : List Value → Result (List ℤ) ValueFault
whole_numbers [] = Ok []
whole_numbers (values.Int z ∷ vs) = whole_numbers vs >>= (λ zs. Ok (z ∷ zs))
whole_numbers (values.Bool b ∷ vs) = Err Kind
whole_numbers (values.Text t ∷ vs) = Err Kind
whole_numbers (values.List zs ∷ vs) = Err Kind

-- the value that a name has
abbrev pub known : Option Value → Result Value ValueFault
known (Some v) = Ok v
known None = Err Unknown

abbrev mutual
  -- the value of an expression, where names have these values
  pub value_of : (List ℕ → Option Value) → Tree → Result Value ValueFault
  value_of names (Int z) = Ok (values.Int z)
  value_of names (Truth b) = Ok (values.Bool b)
  value_of names (Text t) = Ok (values.Text t)
  value_of names (Name t) = known (names t)
  value_of names (Members ts) = (values_of names ts >>= whole_numbers) >>= (λ zs. Ok (values.List zs))
  value_of names (Not t) = value_of names t >>= opposite
  value_of names (Minus t) = value_of names t >>= negative
  value_of names (Binary o a b) = value_of names a >>= (λ v. value_of names b >>= between o v)

  -- the values of the members of a list
  pub values_of : (List ℕ → Option Value) → Trees → Result (List Value) ValueFault
  values_of names none = Ok []
  values_of names (more t ts) = value_of names t >>= (λ v. values_of names ts >>= (λ vs. Ok (v ∷ vs)))

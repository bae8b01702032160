-- Values of expressions, worked out by hand: each operator, each fault, and which fault is told where there are several.
use Rattle.std.specs.Prelude.{◌≡◌, ℕ, ◌-◌, ◌^◌, ℤ, pos, negsuc, Bool, true, false, Option, Some, None, Result, Ok, Err, List, [], ◌∷◌, if◌then◌else◌, refl}
use Rattle.std.specs.Ordering.{nat_cmp, is_eq}
use Rattle.std.specs.Cmp.Lexicographic.{slice_cmp}
use Rattle.zb_base.specs.declared.value.Value.{Value}
use Rattle.zb_base.specs.declared.value.Value.TheVariants as values
use Rattle.zb_process.specs.declared.operator.Operator.{Operator}
use Rattle.zb_process.specs.declared.operator.Operator.TheVariants.{Add, Subtract, Multiply, Equal, NotEqual, Less, AtMost, Greater, AtLeast, And, Or}
use Rattle.zb_process.specs.Tree.{Tree, Int, Truth, Text, Name, Members, Not, Minus, Binary, none, more}
use Rattle.zb_process.specs.Expr.{ValueFault, Unknown, Kind, Overflow, value_of}

-- the name x, and no other, has the value 7
abbrev names : List ℕ → Option Value
names name = if is_eq (slice_cmp nat_cmp name (120 ∷ [])) then Some (values.Int (pos 7)) else None

-- an expression's value where x is 7
abbrev value : Tree → Result Value ValueFault
value tree = value_of names tree

-- what two whole numbers, two truth values or two texts give
abbrev numbers : Operator → ℤ → ℤ → Result Value ValueFault
numbers operator left right = value (Binary operator (Int left) (Int right))

abbrev truths : Operator → Bool → Bool → Result Value ValueFault
truths operator left right = value (Binary operator (Truth left) (Truth right))

abbrev texts : Operator → List ℕ → List ℕ → Result Value ValueFault
texts operator left right = value (Binary operator (Text left) (Text right))

abbrev number : ℤ → Result Value ValueFault
number z = Ok (values.Int z)

abbrev truth : Bool → Result Value ValueFault
truth b = Ok (values.Bool b)

-- expressions that have no value: of an unknown name, of the wrong kind, outside 64 bits
abbrev unknown : Tree
unknown = Name (121 ∷ [])

abbrev unkind : Tree
unkind = Not (Int (pos 1))

abbrev too_far : Tree
too_far = Minus (Int (negsuc (2 ^ 63 - 1)))

-- leaves
pub of_a_number : value (Int (negsuc 4)) ≡ number (negsuc 4)
of_a_number = refl

pub of_a_truth : value (Truth true) ≡ truth true
of_a_truth = refl

pub of_a_text : value (Text (97 ∷ [])) ≡ Ok (values.Text (97 ∷ []))
of_a_text = refl

pub of_a_name : value (Name (120 ∷ [])) ≡ number (pos 7)
of_a_name = refl

pub of_members : value (Members (more (Name (120 ∷ [])) (more (Int (pos 1)) none))) ≡ Ok (values.List (pos 7 ∷ pos 1 ∷ []))
of_members = refl

-- 1 + 2 is 3, 5 - 7 is -2, 3 * -4 is -12, and the other sign of 5 is -5
pub add : numbers Add (pos 1) (pos 2) ≡ number (pos 3)
add = refl

pub subtract : numbers Subtract (pos 5) (pos 7) ≡ number (negsuc 1)
subtract = refl

pub multiply : numbers Multiply (pos 3) (negsuc 3) ≡ number (negsuc 11)
multiply = refl

pub minus : value (Minus (Int (pos 5))) ≡ number (negsuc 4)
minus = refl

-- 2 and 2 are equal, 2 and -2 are not
pub equal_numbers : numbers Equal (pos 2) (pos 2) ≡ truth true
equal_numbers = refl

pub unequal_numbers : numbers Equal (pos 2) (negsuc 1) ≡ truth false
unequal_numbers = refl

pub not_equal_numbers : numbers NotEqual (pos 2) (pos 2) ≡ truth false
not_equal_numbers = refl

pub not_equal : numbers NotEqual (pos 2) (pos 3) ≡ truth true
not_equal = refl

-- truth values, texts and lists are compared as wholes
pub equal_truths : truths Equal false false ≡ truth true
equal_truths = refl

pub unequal_truths : truths Equal true false ≡ truth false
unequal_truths = refl

pub equal_texts : texts Equal (97 ∷ 98 ∷ []) (97 ∷ 98 ∷ []) ≡ truth true
equal_texts = refl

pub longer_text : texts Equal (97 ∷ []) (97 ∷ 98 ∷ []) ≡ truth false
longer_text = refl

pub other_text : texts NotEqual (97 ∷ []) (98 ∷ []) ≡ truth true
other_text = refl

pub equal_lists : value (Binary Equal (Members (more (Int (pos 1)) none)) (Members (more (Int (pos 1)) none))) ≡ truth true
equal_lists = refl

pub longer_list : value (Binary Equal (Members none) (Members (more (Int (pos 1)) none))) ≡ truth false
longer_list = refl

-- -3 against -2, and 2 against itself, by each order
pub less : numbers Less (negsuc 2) (negsuc 1) ≡ truth true
less = refl

pub not_less : numbers Less (pos 2) (pos 2) ≡ truth false
not_less = refl

pub at_most : numbers AtMost (pos 2) (pos 2) ≡ truth true
at_most = refl

pub not_at_most : numbers AtMost (negsuc 1) (negsuc 2) ≡ truth false
not_at_most = refl

pub greater : numbers Greater (negsuc 1) (negsuc 2) ≡ truth true
greater = refl

pub not_greater : numbers Greater (pos 2) (pos 2) ≡ truth false
not_greater = refl

pub at_least : numbers AtLeast (pos 2) (pos 2) ≡ truth true
at_least = refl

pub not_at_least : numbers AtLeast (negsuc 2) (negsuc 1) ≡ truth false
not_at_least = refl

-- both, one of them, and the other one
pub and_of_both : truths And true true ≡ truth true
and_of_both = refl

pub and_of_left : truths And true false ≡ truth false
and_of_left = refl

pub and_of_right : truths And false true ≡ truth false
and_of_right = refl

pub or_of_left : truths Or true false ≡ truth true
or_of_left = refl

pub or_of_right : truths Or false true ≡ truth true
or_of_right = refl

pub or_of_none : truths Or false false ≡ truth false
or_of_none = refl

pub not_true : value (Not (Truth true)) ≡ truth false
not_true = refl

pub not_false : value (Not (Truth false)) ≡ truth true
not_false = refl

-- a name without a value
pub no_such_name : value unknown ≡ Err Unknown
no_such_name = refl

-- the least and the greatest whole number are values, and the numbers beside them are none
pub least : numbers Subtract (negsuc (2 ^ 63 - 2)) (pos 1) ≡ number (negsuc (2 ^ 63 - 1))
least = refl

pub too_small : numbers Subtract (negsuc (2 ^ 63 - 1)) (pos 1) ≡ Err Overflow
too_small = refl

pub greatest : numbers Add (pos (2 ^ 63 - 2)) (pos 1) ≡ number (pos (2 ^ 63 - 1))
greatest = refl

pub too_great : numbers Add (pos (2 ^ 63 - 1)) (pos 1) ≡ Err Overflow
too_great = refl

pub product_that_fits : numbers Multiply (negsuc (2 ^ 62 - 1)) (pos 2) ≡ number (negsuc (2 ^ 63 - 1))
product_that_fits = refl

pub product_too_great : numbers Multiply (pos (2 ^ 62)) (pos 2) ≡ Err Overflow
product_too_great = refl

pub no_other_sign : value too_far ≡ Err Overflow
no_other_sign = refl

-- operands and members of the wrong kind
pub number_and_truth : value (Binary Add (Int (pos 1)) (Truth true)) ≡ Err Kind
number_and_truth = refl

pub sum_of_texts : texts Add [] [] ≡ Err Kind
sum_of_texts = refl

pub order_of_texts : texts Less (97 ∷ []) (98 ∷ []) ≡ Err Kind
order_of_texts = refl

pub order_of_truths : truths AtMost false true ≡ Err Kind
order_of_truths = refl

pub equal_kinds : value (Binary Equal (Text []) (Int (pos 0))) ≡ Err Kind
equal_kinds = refl

pub numbers_of_or : numbers Or (pos 1) (pos 1) ≡ Err Kind
numbers_of_or = refl

pub not_of_a_number : value unkind ≡ Err Kind
not_of_a_number = refl

pub minus_of_a_truth : value (Minus (Truth true)) ≡ Err Kind
minus_of_a_truth = refl

pub truth_in_a_list : value (Members (more (Truth true) none)) ≡ Err Kind
truth_in_a_list = refl

-- the fault of the left operand is told, whatever the right one has
pub left_fault : value (Binary Add too_far unknown) ≡ Err Overflow
left_fault = refl

pub left_kind : value (Binary And unkind too_far) ≡ Err Kind
left_kind = refl

pub left_name : value (Binary Equal unknown unkind) ≡ Err Unknown
left_name = refl

-- both operands are evaluated before their kinds are looked at, also where the left one tells the answer
pub right_fault : value (Binary Add (Truth true) unknown) ≡ Err Unknown
right_fault = refl

pub or_goes_on : value (Binary Or (Truth true) unknown) ≡ Err Unknown
or_goes_on = refl

pub and_goes_on : value (Binary And (Truth false) too_far) ≡ Err Overflow
and_goes_on = refl

pub or_of_another_kind : value (Binary Or (Truth true) (Int (pos 1))) ≡ Err Kind
or_of_another_kind = refl

-- so are the members of a list, from left to right
pub first_member : value (Members (more unkind (more unknown none))) ≡ Err Kind
first_member = refl

pub later_member : value (Members (more (Truth true) (more unknown none))) ≡ Err Unknown
later_member = refl

-- The laws of expressions, level by level. The layout of expressions holds them, so they stand beside the definitions.
use Rattle.std.proofs.Common.{◌≡◌, ℕ, zero, suc, ◌≤◌, List, [], ◌∷◌, ◌++◌, length, Some, refl, sym, ap, subst, ◌∙◌, arith}
use Rattle.std.specs.List.{flat_map, AllByRecursion}
use Rattle.std.proofs.lemmas.List.Concat.{flat_map-cons}
use Rattle.zb_process.specs.declared.operator.Operator.{Operator}
use Rattle.zb_process.specs.declared.operator.Operator.TheVariants as operators
use Rattle.zb_process.specs.Tree.{Tree, Trees, Int, Truth, Text, Name, Members, Not, Minus, Binary, none, more, trees_of, nesting_over}
use Rattle.zb_format.specs.Field.{counted_bytes}
use Rattle.zb_format.specs.Fits.{IsSigned, IsText, AreCounted}
use Rattle.zb_format.specs.Law.{Takes, IsFormat}
use Rattle.zb_format.specs.Reading.{Reader, both_at, made_at, one_of}
use Rattle.zb_format.specs.FormatLaws.{bind_some, IsTagged, arm_tagged, tagged_format, both_format, counted_format, signed_format, flag_format, text_format, one_is, made_takes}
use Rattle.zb_process.specs.Expression.{operator, members, tree, trees, IsTree, AreTrees, IsBelow, IsExpression, each_operator, operator_arm, tree_with, tree_at, expression_at}

-- ---- members as a list

abbrev list_of : Trees → List Tree
list_of none = []
list_of (more t ts) = t ∷ list_of ts

trees_back : (ts : Trees) → trees_of (list_of ts) ≡ ts
trees_back none = refl
trees_back (more t ts) = ap (more t) (trees_back ts)

list_back : (ts : List Tree) → list_of (trees_of ts) ≡ ts
list_back [] = refl
list_back (t ∷ ts) = ap (λ (us : List Tree). t ∷ us) (list_back ts)

-- a list's trees are as many members as the list is long
pub members_of : (ts : List Tree) → members (trees_of ts) ≡ length ts
members_of [] = refl
members_of (t ∷ ts) = omega (arith, members_of ts)

-- members are spelled as the list of them, one behind the other
pub trees_spelled : (ts : List Tree) → trees (trees_of ts) ≡ flat_map tree ts
trees_spelled [] = refl
trees_spelled (t ∷ ts) = ap (λ (y : List ℕ). tree t ++ y) (trees_spelled ts) ∙ sym (flat_map-cons tree t ts)

-- a list expression is spelled as its kind and the counted list of its members
pub list_spelled : (ts : List Tree) → tree (Members (trees_of ts)) ≡ 4 ∷ counted_bytes tree ts
unfolding counted_bytes
list_spelled ts = rw (members_of ts, trees_spelled ts) refl

-- members that each have a spelling have one together
pub trees_fit : (ts : List Tree) → AllByRecursion IsTree ts → AreTrees (trees_of ts)
trees_fit [] h = tt
trees_fit (t ∷ ts) h = (h.0, trees_fit ts h.1)

-- ---- one level more

-- an expression whose parts are such
abbrev IsMade : (Tree → Type 0) → Tree → Type 0
IsMade P (Int z) = IsSigned z
IsMade P (Truth b) = Unit {0}
IsMade P (Text t) = IsText t
IsMade P (Name t) = IsText t
IsMade P (Members ts) = AreCounted P (list_of ts)
IsMade P (Not t) = P t
IsMade P (Minus t) = P t
IsMade P (Binary o a b) = P a × P b

all_below : (n : ℕ) (ts : Trees) → AreTrees ts → nesting_over ts ≤ n → AllByRecursion (IsBelow n) (list_of ts)
all_below n none h le = tt
all_below n (more t ts) h le = ((h.0, omega arith), all_below n ts h.1 (omega arith))

length_list : (ts : Trees) → length (list_of ts) ≡ members ts
length_list none = refl
length_list (more t ts) = omega (arith, length_list ts)

take_apart : (n : ℕ) (t : Tree) → IsBelow (suc n) t → IsMade (IsBelow n) t
take_apart n (Int z) h = h.0
take_apart n (Truth b) h = tt
take_apart n (Text t) h = h.0
take_apart n (Name t) h = h.0
take_apart n (Members ts) h = (omega (arith, length_list ts, h.0.0), all_below n ts h.0.1 (omega (arith, h.1)))
take_apart n (Not t) h = (h.0, omega (arith, h.1))
take_apart n (Minus t) h = (h.0, omega (arith, h.1))
take_apart n (Binary o a b) h = ((h.0.0, omega (arith, h.1)), (h.0.1, omega (arith, h.1)))

below_all : (n : ℕ) (ts : Trees) → AllByRecursion (IsBelow n) (list_of ts) → AreTrees ts × (nesting_over ts ≤ n)
below_all n none h = (tt, omega arith)
below_all n (more t ts) h = let more = below_all n ts h.1 in ((h.0.0, more.0), omega (arith, h.0.1, more.1))

put_together : (n : ℕ) (t : Tree) → IsMade (IsBelow n) t → IsBelow (suc n) t
put_together n (Int z) h = (h, omega arith)
put_together n (Truth b) h = (tt, omega arith)
put_together n (Text t) h = (h, omega arith)
put_together n (Name t) h = (h, omega arith)
put_together n (Members ts) h = let all = below_all n ts h.1 in ((omega (arith, length_list ts, h.0), all.0), omega (arith, all.1))
put_together n (Not t) h = (h.0, omega (arith, h.1))
put_together n (Minus t) h = (h.0, omega (arith, h.1))
put_together n (Binary o a b) h = ((h.0.0, h.1.0), omega (arith, h.0.1, h.1.1))

-- ---- the format

known_operator : (o : Operator) → one_of operator each_operator (operator o) ≡ Some o
known_operator operators.Add = refl
known_operator operators.Subtract = refl
known_operator operators.Multiply = refl
known_operator operators.Equal = refl
known_operator operators.NotEqual = refl
known_operator operators.Less = refl
known_operator operators.AtMost = refl
known_operator operators.Greater = refl
known_operator operators.AtLeast = refl
known_operator operators.And = refl
known_operator operators.Or = refl

operator_tagged : (P : Tree → Type 0) (part : Reader Tree) → IsFormat tree P part → IsTagged tree (IsMade P) (operator_arm part)
operator_tagged P part one = record {
  behind_takes = λ tag bytes x rest h e.
      let o = bind_some (one_of operator each_operator tag) (λ o. made_at (λ p. Binary o p.0 p.1) (both_at part part) bytes) (x, rest) e in
      let same : operator o.0 ≡ tag = one_is operator each_operator tag o.0 o.1 in
      subst (λ k. Takes (k ∷ bytes) (tree x) rest × IsMade P x) same
      (made_takes (operator o.0) (λ (p : Tree × Tree). Binary o.0 p.0 p.1) (λ p. tree p.0 ++ tree p.1) (λ p. P p.0 × P p.1) (both_at part part) tree (IsMade P)
      (both_format one one) (λ p. refl) (λ p h. h) bytes x rest h o.2);
}

members_again : (P : Tree → Type 0) (part : Reader Tree) → IsFormat tree P part → (ts : List Tree) (rest : List ℕ) → AreCounted P ts → tree_with part (tree (Members (trees_of ts)) ++ rest) ≡ Some (Members (trees_of ts), rest)
members_again P part one ts rest h =
    let read : tree_with part ((4 ∷ counted_bytes tree ts) ++ rest) ≡ Some (Members (trees_of ts), rest) = rw ((counted_format one).again ts rest h) refl in
    ap (λ (spelled : List ℕ). tree_with part (spelled ++ rest)) (list_spelled ts) ∙ read

made_again : (P : Tree → Type 0) (part : Reader Tree) → IsFormat tree P part → (x : Tree) (rest : List ℕ) → IsMade P x → tree_with part (tree x ++ rest) ≡ Some (x, rest)
made_again P part one (Int z) rest h = rw (signed_format.again z rest h) refl
made_again P part one (Truth b) rest h = rw (flag_format.again b rest tt) refl
made_again P part one (Text t) rest h = rw (text_format.again t rest h) refl
made_again P part one (Name t) rest h = rw (text_format.again t rest h) refl
made_again P part one (Members ts) rest h = subst (λ us. tree_with part (tree (Members us) ++ rest) ≡ Some (Members us, rest)) (trees_back ts) (members_again P part one (list_of ts) rest h)
made_again P part one (Not t) rest h = rw (one.again t rest h) refl
made_again P part one (Minus t) rest h = rw (one.again t rest h) refl
made_again P part one (Binary o a b) rest h =
    let read = (both_format one one).again (a, b) rest h in
    operator_again o part a b rest read
  where
    operator_again : (o : Operator) (part : Reader Tree) (a b : Tree) (rest : List ℕ) → both_at part part ((tree a ++ tree b) ++ rest) ≡ Some ((a, b), rest) → tree_with part (tree (Binary o a b) ++ rest) ≡ Some (Binary o a b, rest)
    operator_again operators.Add part a b rest e = rw e refl
    operator_again operators.Subtract part a b rest e = rw e refl
    operator_again operators.Multiply part a b rest e = rw e refl
    operator_again operators.Equal part a b rest e = rw e refl
    operator_again operators.NotEqual part a b rest e = rw e refl
    operator_again operators.Less part a b rest e = rw e refl
    operator_again operators.AtMost part a b rest e = rw e refl
    operator_again operators.Greater part a b rest e = rw e refl
    operator_again operators.AtLeast part a b rest e = rw e refl
    operator_again operators.And part a b rest e = rw e refl
    operator_again operators.Or part a b rest e = rw e refl

with_format : (P : Tree → Type 0) (part : Reader Tree) → IsFormat tree P part → IsFormat tree (IsMade P) (tree_with part)
with_format P part one = tagged_format
    (arm_tagged 0 Int signed_format (λ a. refl) (λ a h. h)
    (arm_tagged 1 Truth flag_format (λ a. refl) (λ a h. h)
    (arm_tagged 2 Text text_format (λ a. refl) (λ a h. h)
    (arm_tagged 3 Name text_format (λ a. refl) (λ a h. h)
    (arm_tagged 4 (λ ts. Members (trees_of ts)) (counted_format one) list_spelled (λ ts h. subst (AreCounted P) (sym (list_back ts)) h)
    (arm_tagged 5 Not one (λ a. refl) (λ a h. h)
    (arm_tagged 6 Minus one (λ a. refl) (λ a h. h)
    (operator_tagged P part one))))))))
    (made_again P part one)

-- expressions that are nested less than so many levels deep are a format
pub tree_format : (levels : ℕ) → IsFormat tree (IsBelow levels) (tree_at levels)
unfolding tree_at
tree_format zero = record {
  takes = λ bytes x rest h e. absurd cc;
  again = λ x rest h. absurd (omega (arith, h.1));
}
tree_format (suc levels) =
    let one = with_format (IsBelow levels) (tree_at levels) (tree_format levels) in
    record {
      takes = λ bytes x rest h e. let t = one.takes bytes x rest h e in (t.0, put_together levels x t.1);
      again = λ x rest h. one.again x rest (take_apart levels x h);
    }

-- expressions are a format
pub expression_format : IsFormat tree IsExpression expression_at
expression_format = tree_format 65

-- What is printed of a tree whose texts are UTF-8 is UTF-8.
use Rattle.std.proofs.Common.{◌≡◌, ℕ, zero, suc, ◌+◌, ◌<◌, ◌^◌, Bool, true, false, ◌||◌, ◌==◌, nat_lt, if◌then◌else◌, pos, negsuc, List, [], ◌∷◌, ◌++◌, subst, refl, sym, append_assoc, arith, lit<}
use Rattle.std.proofs.lemmas.Bool.Decides.{nat_tests}
use Rattle.std.proofs.lemmas.Fmt.{digits_decimal}
use Rattle.std.proofs.lemmas.Str.{IsUtf8-nil, IsUtf8-append, IsUtf8-from_ascii}
use Rattle.std.specs.Fmt.{decimal}
use Rattle.std.specs.Str.{IsUtf8, IsAscii}
use Rattle.zb_process.specs.declared.operator.Operator.{Operator}
use Rattle.zb_process.specs.declared.operator.Operator.TheVariants as operators
use Rattle.zb_process.specs.Tree as trees
use Rattle.zb_process.specs.Tree.{Tree, Trees}
use Rattle.zb_expr.specs.declared.class.Class.{Class}
use Rattle.zb_expr.specs.declared.class.Class.TheVariants as classes
use Rattle.zb_expr.specs.declared.token.Leaf.{Leaf}
use Rattle.zb_expr.specs.declared.token.Leaf.TheVariants as leaves
use Rattle.zb_expr.specs.Spelling.{is_in}
use Rattle.zb_expr.specs.Lexical.{are_in, backslashed}
use Rattle.zb_expr.specs.Grammar.{Form, Forms, Alone, Group, Negation, Minus, Members, Binary, none, more, level, level_of, left_level}
use Rattle.zb_expr.specs.Printing.{grouped, bare_form, bare_forms, leaf_printed, operator_printed, form_printed, members_printed, printed, HasPrintableLeaves, HavePrintableLeaves, HasUtf8Texts, HaveUtf8Texts}
use Rattle.zb_expr.proofs.LexicalLemmas.{both_true}
use Rattle.zb_expr.proofs.PrintingLemmas.{own}
use Rattle.zb_expr.proofs.Utf8Lemmas.{class_byte, utf8_before, utf8_behind}

class_ascii : (class : Class) (bs : List ℕ) → are_in class bs ≡ true → IsAscii bs
class_ascii class [] h k = lit< tt
class_ascii class (b ∷ bs) h zero = class_byte class b (both_true (is_in class b) (are_in class bs) h).0
class_ascii class (b ∷ bs) h (suc k) = class_ascii class bs (both_true (is_in class b) (are_in class bs) h).1 k

class_utf8 : (class : Class) (bs : List ℕ) → are_in class bs ≡ true → IsUtf8 bs
class_utf8 class bs h = IsUtf8-from_ascii bs (class_ascii class bs h)

one_ascii : (b : ℕ) → b < 128 → IsAscii (b ∷ [])
one_ascii b small zero = small
one_ascii b small (suc k) = lit< tt

-- a byte of ASCII may stand before UTF-8
utf8_one : (b : ℕ) (bs : List ℕ) → b < 128 → IsUtf8 bs → IsUtf8 (b ∷ bs)
utf8_one b bs small h = IsUtf8-append (b ∷ []) bs (IsUtf8-from_ascii (b ∷ []) (one_ascii b small)) h

-- a backslash may stand before a byte of ASCII
utf8_slash : (xs : List ℕ) (b : ℕ) (ys : List ℕ) → b < 128 → IsUtf8 (xs ++ b ∷ ys) → IsUtf8 (xs ++ 92 ∷ b ∷ ys)
utf8_slash xs b ys small h =
    IsUtf8-append xs (92 ∷ b ∷ ys) (utf8_before xs b ys small h) (utf8_one 92 (b ∷ ys) (lit< tt) (utf8_one b ys small (utf8_behind xs b ys small h)))

utf8_escaped : (xs content : List ℕ) → IsUtf8 (xs ++ content) → IsUtf8 (xs ++ backslashed content)
utf8_escaped xs [] h = h
utf8_escaped xs (b ∷ bs) h =
    let others : IsUtf8 ((xs ++ b ∷ []) ++ backslashed bs) = utf8_escaped (xs ++ b ∷ []) bs (subst IsUtf8 (sym (append_assoc xs (b ∷ []) bs)) h) in
    by_tests (b == 34) (b == 92) refl refl (subst IsUtf8 (append_assoc xs (b ∷ []) (backslashed bs)) others)
  where
    by_tests : (q s : Bool) → (b == 34) ≡ q → (b == 92) ≡ s → IsUtf8 (xs ++ b ∷ backslashed bs) → IsUtf8 (xs ++ (if q || s then 92 ∷ b ∷ backslashed bs else b ∷ backslashed bs))
    by_tests true s e f k = let same : b ≡ 34 = grind (arith, nat_tests) in utf8_slash xs b (backslashed bs) (omega (arith, same)) k
    by_tests false true e f k = let same : b ≡ 92 = grind (arith, nat_tests) in utf8_slash xs b (backslashed bs) (omega (arith, same)) k
    by_tests false false e f k = k

operator_utf8 : (o : Operator) → IsUtf8 (operator_printed o)
operator_utf8 operators.Add = utf8_one 43 [] (lit< tt) IsUtf8-nil
operator_utf8 operators.Subtract = utf8_one 45 [] (lit< tt) IsUtf8-nil
operator_utf8 operators.Multiply = utf8_one 42 [] (lit< tt) IsUtf8-nil
operator_utf8 operators.Equal = utf8_one 61 [] (lit< tt) IsUtf8-nil
operator_utf8 operators.NotEqual = utf8_one 33 (61 ∷ []) (lit< tt) (utf8_one 61 [] (lit< tt) IsUtf8-nil)
operator_utf8 operators.Less = utf8_one 60 [] (lit< tt) IsUtf8-nil
operator_utf8 operators.AtMost = utf8_one 60 (61 ∷ []) (lit< tt) (utf8_one 61 [] (lit< tt) IsUtf8-nil)
operator_utf8 operators.Greater = utf8_one 62 [] (lit< tt) IsUtf8-nil
operator_utf8 operators.AtLeast = utf8_one 62 (61 ∷ []) (lit< tt) (utf8_one 61 [] (lit< tt) IsUtf8-nil)
operator_utf8 operators.And = class_utf8 classes.Word (operator_printed operators.And) refl
operator_utf8 operators.Or = class_utf8 classes.Word (operator_printed operators.Or) refl

-- a form that is printed as UTF-8 in front of UTF-8
abbrev pub KeepsUtf8 : Form → Type 0
KeepsUtf8 f = (behind : List ℕ) → IsUtf8 behind → IsUtf8 (form_printed f behind)

abbrev pub KeepUtf8 : Forms → Type 0
KeepUtf8 ms = (behind : List ℕ) → IsUtf8 behind → IsUtf8 (members_printed ms behind)

leaf_utf8 : (l : Leaf) → IsUtf8 (leaf_printed l) → KeepsUtf8 (Alone l)
leaf_utf8 l h = λ behind k. IsUtf8-append (leaf_printed l) behind h k

quoted_utf8 : (t : List ℕ) → IsUtf8 t → IsUtf8 (leaf_printed (leaves.Text t))
quoted_utf8 t h = utf8_one 34 (backslashed t ++ 34 ∷ []) (lit< tt) (IsUtf8-append (backslashed t) (34 ∷ []) (utf8_escaped [] t h) (utf8_one 34 [] (lit< tt) IsUtf8-nil))

number_utf8 : (n : ℕ) → n < 2 ^ 63 → IsUtf8 (decimal n)
number_utf8 n few = class_utf8 classes.Digit (decimal n) (digits_decimal own n (omega (arith, few)))

within_utf8 : (f : Form) → KeepsUtf8 f → KeepsUtf8 (Group f)
within_utf8 f k = λ behind h. utf8_one 40 (form_printed f (41 ∷ behind)) (lit< tt) (k (41 ∷ behind) (utf8_one 41 behind (lit< tt) h))

negation_utf8 : (f : Form) → KeepsUtf8 f → KeepsUtf8 (Negation f)
negation_utf8 f k = λ behind h. IsUtf8-append (110 ∷ 111 ∷ 116 ∷ []) (form_printed (Group f) behind) (class_utf8 classes.Word (110 ∷ 111 ∷ 116 ∷ []) refl) (within_utf8 f k behind h)

minus_utf8 : (f : Form) → KeepsUtf8 f → KeepsUtf8 (Minus f)
minus_utf8 f k = λ behind h. utf8_one 45 (form_printed f behind) (lit< tt) (k behind h)

binary_utf8 : (o : Operator) (a b : Form) → KeepsUtf8 a → KeepsUtf8 b → KeepsUtf8 (Binary o a b)
binary_utf8 o a b k l = λ behind h.
    let right : IsUtf8 (32 ∷ form_printed b behind) = utf8_one 32 (form_printed b behind) (lit< tt) (l behind h) in
    let middle : IsUtf8 (operator_printed o ++ (32 ∷ form_printed b behind)) = IsUtf8-append (operator_printed o) (32 ∷ form_printed b behind) (operator_utf8 o) right in
    k (32 ∷ (operator_printed o ++ (32 ∷ form_printed b behind))) (utf8_one 32 (operator_printed o ++ (32 ∷ form_printed b behind)) (lit< tt) middle)

no_member_utf8 : KeepUtf8 none
no_member_utf8 = λ behind h. utf8_one 93 behind (lit< tt) h

more_members_utf8 : (a : Form) (ms : Forms) → KeepsUtf8 a → KeepUtf8 ms → KeepUtf8 (more a ms)
more_members_utf8 a ms k l = λ behind h.
    utf8_one 44 (32 ∷ form_printed a (members_printed ms behind)) (lit< tt) (utf8_one 32 (form_printed a (members_printed ms behind)) (lit< tt) (k (members_printed ms behind) (l behind h)))

empty_list_utf8 : KeepsUtf8 (Members none)
empty_list_utf8 = λ behind h. utf8_one 91 (93 ∷ behind) (lit< tt) (utf8_one 93 behind (lit< tt) h)

list_utf8 : (a : Form) (ms : Forms) → KeepsUtf8 a → KeepUtf8 ms → KeepsUtf8 (Members (more a ms))
list_utf8 a ms k l = λ behind h. utf8_one 91 (form_printed a (members_printed ms behind)) (lit< tt) (k (members_printed ms behind) (l behind h))

grouped_utf8 : (least : ℕ) (f : Form) → KeepsUtf8 f → KeepsUtf8 (grouped least f)
grouped_utf8 least f k = by_test (nat_lt (level f) least)
  where
    by_test : (is : Bool) → KeepsUtf8 (if is then Group f else f)
    by_test true = within_utf8 f k
    by_test false = k

mutual
  tree_utf8 : (t : Tree) → HasPrintableLeaves t → HasUtf8Texts t → KeepsUtf8 (bare_form t)
  tree_utf8 (trees.Int (pos n)) h u = leaf_utf8 (leaves.Int (pos n)) (number_utf8 n h)
  tree_utf8 (trees.Int (negsuc n)) h u = absurd h
  tree_utf8 (trees.Truth true) h u = leaf_utf8 (leaves.Bool true) (class_utf8 classes.Word (leaf_printed (leaves.Bool true)) refl)
  tree_utf8 (trees.Truth false) h u = leaf_utf8 (leaves.Bool false) (class_utf8 classes.Word (leaf_printed (leaves.Bool false)) refl)
  tree_utf8 (trees.Text t) h u = leaf_utf8 (leaves.Text t) (quoted_utf8 t u)
  tree_utf8 (trees.Name []) h u = absurd h
  tree_utf8 (trees.Name (b ∷ bs)) h u = leaf_utf8 (leaves.Name (b ∷ bs)) (class_utf8 classes.Word (b ∷ bs) h.1)
  tree_utf8 (trees.Members trees.none) h u = empty_list_utf8
  tree_utf8 (trees.Members (trees.more t ts)) h u = list_utf8 (bare_form t) (bare_forms ts) (tree_utf8 t h.0 u.0) (members_utf8 ts h.1 u.1)
  tree_utf8 (trees.Not t) h u = negation_utf8 (bare_form t) (tree_utf8 t h u)
  tree_utf8 (trees.Minus t) h u = minus_utf8 (grouped 6 (bare_form t)) (grouped_utf8 6 (bare_form t) (tree_utf8 t h u))
  tree_utf8 (trees.Binary o a b) h u =
      binary_utf8 o (grouped (left_level o) (bare_form a)) (grouped (level_of o + 1) (bare_form b)) (grouped_utf8 (left_level o) (bare_form a) (tree_utf8 a h.0 u.0)) (grouped_utf8 (level_of o + 1) (bare_form b) (tree_utf8 b h.1 u.1))

  members_utf8 : (ts : Trees) → HavePrintableLeaves ts → HaveUtf8Texts ts → KeepUtf8 (bare_forms ts)
  members_utf8 trees.none h u = no_member_utf8
  members_utf8 (trees.more t ts) h u = more_members_utf8 (bare_form t) (bare_forms ts) (tree_utf8 t h.0 u.0) (members_utf8 ts h.1 u.1)

pub printed_utf8 : (tree : Tree) → HasPrintableLeaves tree → HasUtf8Texts tree → IsUtf8 (printed tree)
printed_utf8 tree h u = tree_utf8 tree h u [] IsUtf8-nil

-- What is printed of a tree is an expression that has this tree.
use Rattle.std.proofs.Common.{◌≡◌, ℕ, ◌+◌, ◌<◌, ◌≤◌, ◌^◌, nat_lt, pos, negsuc, Bool, true, false, ◌==◌, if◌then◌else◌, Some, None, List, [], ◌∷◌, ◌++◌, length, subst, refl, ◌∙◌, ap, append_assoc, arith, lit≤, rules}
use Rattle.std.proofs.lemmas.Bool.Decides.{nat_tests}
use Rattle.std.proofs.lemmas.Fmt.{decimal_is_IsNumeral, digits_decimal, digits_value-decimal}
use Rattle.std.proofs.lemmas.Str.Parse.{IsNumeralModel, numerals_by_fold}
use Rattle.std.specs.Fmt.{decimal}
use Rattle.zb_process.specs.declared.operator.Operator.{Operator}
use Rattle.zb_process.specs.declared.operator.Operator.TheVariants as operators
use Rattle.zb_process.specs.Tree as trees
use Rattle.zb_process.specs.Tree.{Tree, Trees, trees_of}
use Rattle.zb_expr.specs.declared.class.Class.TheVariants as classes
use Rattle.zb_expr.specs.declared.token.Leaf.{Leaf}
use Rattle.zb_expr.specs.declared.token.Leaf.TheVariants as leaves
use Rattle.zb_expr.specs.declared.token.Token.{Token}
use Rattle.zb_expr.specs.declared.token.Token.TheVariants as tokens
use Rattle.zb_expr.specs.Spelling.{is_decimal, begins_name, first_byte, decimal_after, number_token, sign_alone, long_sign, sign_and_equal}
use Rattle.zb_expr.specs.Lexical.{are_in, stops, backslashed, BeginsWith, number, word, quoted, sign, long, AreSpelled, IsExpr}
use Rattle.zb_expr.specs.Grammar.{Form, Forms, Alone, Group, Negation, Minus, Members, Binary, none, more, level, level_of, left_level, IsFormed, AreFormed, written, written_behind, form_tree, form_trees}
use Rattle.zb_expr.specs.Printing.{grouped, bare_form, bare_forms, leaf_printed, operator_printed, form_printed, members_printed, printed, IsName, HasPrintableLeaves, HavePrintableLeaves, IsPrintable}
use Rattle.zb_expr.proofs.ExprLemmas.{expr_read-of, only_read}
use Rattle.zb_expr.proofs.LevelLemmas.{level_of-between}
use Rattle.zb_expr.proofs.LexicalLemmas.{both_true}

-- a text that is spelled by these tokens, and begins with no space
abbrev pub Stands : List Token → List ℕ → Type 0
Stands ts text = AreSpelled ts text × (stops classes.Space text ≡ true)

-- what stands behind a token: nothing, or spaces and then further tokens
pub data Behind (ts : List Token) (text : List ℕ) : Type 0 where
  nothing : ts ≡ [] → text ≡ [] → Behind ts text
  follows : (spaces others : List ℕ) → text ≡ spaces ++ others → are_in classes.Space spaces ≡ true → Stands ts others → Behind ts text

-- further tokens with no space before them, and with one
close : (ts : List Token) (text : List ℕ) → Stands ts text → Behind ts text
close ts text h = follows [] text refl refl h

apart : (ts : List Token) (text : List ℕ) → Stands ts text → Behind ts (32 ∷ text)
apart ts text h = follows (32 ∷ []) text refl refl h

number_no_space : (b : ℕ) → is_decimal b ≡ true → (b == 32) ≡ false
number_no_space b h = grind (arith, nat_tests)

word_no_space : (b : ℕ) → begins_name b ≡ true → (b == 32) ≡ false
word_no_space b h = grind (arith, nat_tests)

sign_no_space : (b : ℕ) (t : Token) → sign_alone b ≡ Some t → (b == 32) ≡ false
sign_no_space b t h = grind (arith, nat_tests)

long_no_space : (b c : ℕ) (o : Operator) → long_sign b (Some c) ≡ Some o → (b == 32) ≡ false
long_no_space b c o h = grind (arith, nat_tests)

-- no token begins with a space
begins_no_space : (t : Token) (text behind : List ℕ) → BeginsWith t text behind → stops classes.Space text ≡ true
begins_no_space t text behind (number d ds e all ends is) = rw (e, number_no_space d (both_true (is_decimal d) (are_in classes.Digit ds) all).0) refl
begins_no_space t text behind (word b bs e begins all ends is) = rw (e, word_no_space b begins) refl
begins_no_space t text behind (quoted content e is) = rw e refl
begins_no_space t text behind (sign b e short is) = rw (e, sign_no_space b t is) refl
begins_no_space t text behind (long b c o e is same) = rw (e, long_no_space b c o is) refl

-- one token more
put : (t : Token) (ts : List Token) (text behind : List ℕ) → BeginsWith t text behind → Behind ts behind → Stands (t ∷ ts) text
put t [] text behind b (nothing e f) = (subst (λ (r : List ℕ). BeginsWith t text r) f b, begins_no_space t text behind b)
put t [] text behind b (follows spaces others e all h) = absurd h.0
put t (u ∷ ts) text behind b (nothing e f) = absurd cc
put t (u ∷ ts) text behind b (follows spaces others e all h) = ((spaces, others, subst (λ (r : List ℕ). BeginsWith t text r) e b, all, h.1, h.0), begins_no_space t text behind b)

-- how a form is printed spells its tokens, where no letter or digit stands behind it
abbrev pub Spells : Form → Type 0
Spells f = (rest : List Token) (behind : List ℕ) → stops classes.Word behind ≡ true → Behind rest behind → Stands (written f rest) (form_printed f behind)

-- the same of further members
abbrev pub SpellBehind : Forms → Type 0
SpellBehind ms = (rest : List Token) (behind : List ℕ) → Behind rest behind → Stands (written_behind ms rest) (members_printed ms behind)

-- a sign that no '=' prolongs
no_longer : (b : ℕ) → sign_and_equal b ≡ None → (behind : List ℕ) → long_sign b (first_byte behind) ≡ None
no_longer b h [] = refl
no_longer b h (c ∷ cs) = by_next (c == 61)
  where
    by_next : (is : Bool) → (if is then sign_and_equal b else None) ≡ None
    by_next true = h
    by_next false = refl

one_sign : (b : ℕ) (t : Token) (ts : List Token) (behind : List ℕ) → sign_and_equal b ≡ None → sign_alone b ≡ Some t → Behind ts behind → Stands (t ∷ ts) (b ∷ behind)
one_sign b t ts behind h k next = put t ts (b ∷ behind) behind (sign b refl (no_longer b h behind) k) next

no_letter_no_digit : (text : List ℕ) → stops classes.Word text ≡ true → stops classes.Digit text ≡ true
no_letter_no_digit [] h = refl
no_letter_no_digit (b ∷ bs) h = grind (arith, nat_tests)

-- the digits that are printed of a whole number are it
pub own : IsNumeralModel (λ ds. are_in classes.Digit ds ≡ true) (decimal_after 0)
own = numerals_by_fold _ (search rules) decimal_after (search rules)

number_is : (ds : List ℕ) (n : ℕ) → decimal_after 0 ds ≡ n → n < 2 ^ 63 → number_token ds ≡ Some (tokens.Leaf (leaves.Int (pos n)))
number_is ds n is few =
    let below : nat_lt n (2 ^ 63) ≡ true = grind (arith, nat_tests) in
    rw (is, below) refl

number_begins : (n : ℕ) → n < 2 ^ 63 → (behind : List ℕ) → stops classes.Word behind ≡ true → BeginsWith (tokens.Leaf (leaves.Int (pos n))) (decimal n ++ behind) behind
number_begins n few behind stop = by_digits (decimal n) (decimal_is_IsNumeral n small).0.0 (digits_decimal own n small) (digits_value-decimal own n small)
  where
    small : n < 2 ^ 64
    small = omega (arith, few)

    by_digits : (ds : List ℕ) → 0 < length ds → are_in classes.Digit ds ≡ true → decimal_after 0 ds ≡ n → BeginsWith (tokens.Leaf (leaves.Int (pos n))) (ds ++ behind) behind
    by_digits [] some all is = absurd (omega (arith, some))
    by_digits (d ∷ ds) some all is = number d ds refl all (no_letter_no_digit behind stop) (number_is (d ∷ ds) n is few)

true_begins : (behind : List ℕ) → stops classes.Word behind ≡ true → BeginsWith (tokens.Leaf (leaves.Bool true)) (leaf_printed (leaves.Bool true) ++ behind) behind
true_begins behind stop = word 116 (114 ∷ 117 ∷ 101 ∷ []) refl refl refl stop refl

false_begins : (behind : List ℕ) → stops classes.Word behind ≡ true → BeginsWith (tokens.Leaf (leaves.Bool false)) (leaf_printed (leaves.Bool false) ++ behind) behind
false_begins behind stop = word 102 (97 ∷ 108 ∷ 115 ∷ 101 ∷ []) refl refl refl stop refl

quoted_begins : (t behind : List ℕ) → BeginsWith (tokens.Leaf (leaves.Text t)) (leaf_printed (leaves.Text t) ++ behind) behind
quoted_begins t behind = quoted t (ap (λ (r : List ℕ). 34 ∷ r) (append_assoc (backslashed t) (34 ∷ []) behind)) refl

name_begins : (b : ℕ) (bs : List ℕ) → IsName (b ∷ bs) → (behind : List ℕ) → stops classes.Word behind ≡ true → BeginsWith (tokens.Leaf (leaves.Name (b ∷ bs))) ((b ∷ bs) ++ behind) behind
name_begins b bs h behind stop = word b bs refl h.0 h.1 stop h.2

-- an operator stands at the front, where a space stands behind it
operator_begins : (o : Operator) (behind : List ℕ) → BeginsWith (tokens.Operator o) (operator_printed o ++ (32 ∷ behind)) (32 ∷ behind)
operator_begins operators.Add behind = sign 43 refl refl refl
operator_begins operators.Subtract behind = sign 45 refl refl refl
operator_begins operators.Multiply behind = sign 42 refl refl refl
operator_begins operators.Equal behind = sign 61 refl refl refl
operator_begins operators.NotEqual behind = long 33 61 operators.NotEqual refl refl refl
operator_begins operators.Less behind = sign 60 refl refl refl
operator_begins operators.AtMost behind = long 60 61 operators.AtMost refl refl refl
operator_begins operators.Greater behind = sign 62 refl refl refl
operator_begins operators.AtLeast behind = long 62 61 operators.AtLeast refl refl refl
operator_begins operators.And behind = word 97 (110 ∷ 100 ∷ []) refl refl refl refl refl
operator_begins operators.Or behind = word 111 (114 ∷ []) refl refl refl refl refl

leaf_spells : (l : Leaf) → ((behind : List ℕ) → stops classes.Word behind ≡ true → BeginsWith (tokens.Leaf l) (leaf_printed l ++ behind) behind) → Spells (Alone l)
leaf_spells l begins = λ rest behind stop next. put (tokens.Leaf l) rest (leaf_printed l ++ behind) behind (begins behind stop) next

-- a form in parentheses
within : (f : Form) → Spells f → (rest : List Token) (behind : List ℕ) → Behind rest behind → Stands (tokens.Open ∷ written f (tokens.Close ∷ rest)) (40 ∷ form_printed f (41 ∷ behind))
within f k rest behind next =
    let end : Stands (tokens.Close ∷ rest) (41 ∷ behind) = one_sign 41 tokens.Close rest behind refl refl next in
    let inner : Stands (written f (tokens.Close ∷ rest)) (form_printed f (41 ∷ behind)) = k (tokens.Close ∷ rest) (41 ∷ behind) refl (close (tokens.Close ∷ rest) (41 ∷ behind) end) in
    one_sign 40 tokens.Open (written f (tokens.Close ∷ rest)) (form_printed f (41 ∷ behind)) refl refl (close (written f (tokens.Close ∷ rest)) (form_printed f (41 ∷ behind)) inner)

group_spells : (f : Form) → Spells f → Spells (Group f)
group_spells f k = λ rest behind stop next. within f k rest behind next

negation_spells : (f : Form) → Spells f → Spells (Negation f)
negation_spells f k = λ rest behind stop next.
    put tokens.Not (tokens.Open ∷ written f (tokens.Close ∷ rest)) (110 ∷ 111 ∷ 116 ∷ 40 ∷ form_printed f (41 ∷ behind)) (40 ∷ form_printed f (41 ∷ behind))
    (word 110 (111 ∷ 116 ∷ []) refl refl refl refl refl)
    (close (tokens.Open ∷ written f (tokens.Close ∷ rest)) (40 ∷ form_printed f (41 ∷ behind)) (within f k rest behind next))

minus_spells : (f : Form) → Spells f → Spells (Minus f)
minus_spells f k = λ rest behind stop next.
    one_sign 45 (tokens.Operator operators.Subtract) (written f rest) (form_printed f behind) refl refl (close (written f rest) (form_printed f behind) (k rest behind stop next))

binary_spells : (o : Operator) (a b : Form) → Spells a → Spells b → Spells (Binary o a b)
binary_spells o a b k l = λ rest behind stop next.
    let right : Stands (written b rest) (form_printed b behind) = l rest behind stop next in
    let middle : Stands (tokens.Operator o ∷ written b rest) (operator_printed o ++ (32 ∷ form_printed b behind)) =
    put (tokens.Operator o) (written b rest) (operator_printed o ++ (32 ∷ form_printed b behind)) (32 ∷ form_printed b behind) (operator_begins o (form_printed b behind)) (apart (written b rest) (form_printed b behind) right) in
    k (tokens.Operator o ∷ written b rest) (32 ∷ (operator_printed o ++ (32 ∷ form_printed b behind))) refl (apart (tokens.Operator o ∷ written b rest) (operator_printed o ++ (32 ∷ form_printed b behind)) middle)

no_member_spells : SpellBehind none
no_member_spells = λ rest behind next. one_sign 93 tokens.CloseList rest behind refl refl next

-- behind a member stands no letter or digit
members_stop : (ms : Forms) (behind : List ℕ) → stops classes.Word (members_printed ms behind) ≡ true
members_stop none behind = refl
members_stop (more a ms) behind = refl

-- a member, and further ones
member_stands : (a : Form) (ms : Forms) → Spells a → SpellBehind ms → (rest : List Token) (behind : List ℕ) → Behind rest behind → Stands (written a (written_behind ms rest)) (form_printed a (members_printed ms behind))
member_stands a ms k l rest behind next =
    k (written_behind ms rest) (members_printed ms behind) (members_stop ms behind) (close (written_behind ms rest) (members_printed ms behind) (l rest behind next))

more_members_spell : (a : Form) (ms : Forms) → Spells a → SpellBehind ms → SpellBehind (more a ms)
more_members_spell a ms k l = λ rest behind next.
    one_sign 44 tokens.Comma (written a (written_behind ms rest)) (32 ∷ form_printed a (members_printed ms behind)) refl refl
    (apart (written a (written_behind ms rest)) (form_printed a (members_printed ms behind)) (member_stands a ms k l rest behind next))

empty_list_spells : Spells (Members none)
empty_list_spells = λ rest behind stop next.
    one_sign 91 tokens.OpenList (tokens.CloseList ∷ rest) (93 ∷ behind) refl refl (close (tokens.CloseList ∷ rest) (93 ∷ behind) (no_member_spells rest behind next))

list_spells : (a : Form) (ms : Forms) → Spells a → SpellBehind ms → Spells (Members (more a ms))
list_spells a ms k l = λ rest behind stop next.
    one_sign 91 tokens.OpenList (written a (written_behind ms rest)) (form_printed a (members_printed ms behind)) refl refl
    (close (written a (written_behind ms rest)) (form_printed a (members_printed ms behind)) (member_stands a ms k l rest behind next))

grouped_spells : (least : ℕ) (f : Form) → Spells f → Spells (grouped least f)
grouped_spells least f k = by_test (nat_lt (level f) least)
  where
    by_test : (is : Bool) → Spells (if is then Group f else f)
    by_test true = group_spells f k
    by_test false = k

mutual
  -- how a tree is printed spells the tokens of its form
  tree_spells : (t : Tree) → HasPrintableLeaves t → Spells (bare_form t)
  tree_spells (trees.Int (pos n)) h = leaf_spells (leaves.Int (pos n)) (number_begins n h)
  tree_spells (trees.Int (negsuc n)) h = absurd h
  tree_spells (trees.Truth true) h = leaf_spells (leaves.Bool true) true_begins
  tree_spells (trees.Truth false) h = leaf_spells (leaves.Bool false) false_begins
  tree_spells (trees.Text t) h = leaf_spells (leaves.Text t) (λ behind stop. quoted_begins t behind)
  tree_spells (trees.Name []) h = absurd h
  tree_spells (trees.Name (b ∷ bs)) h = leaf_spells (leaves.Name (b ∷ bs)) (name_begins b bs h)
  tree_spells (trees.Members trees.none) h = empty_list_spells
  tree_spells (trees.Members (trees.more t ts)) h = list_spells (bare_form t) (bare_forms ts) (tree_spells t h.0) (members_spell ts h.1)
  tree_spells (trees.Not t) h = negation_spells (bare_form t) (tree_spells t h)
  tree_spells (trees.Minus t) h = minus_spells (grouped 6 (bare_form t)) (grouped_spells 6 (bare_form t) (tree_spells t h))
  tree_spells (trees.Binary o a b) h =
      binary_spells o (grouped (left_level o) (bare_form a)) (grouped (level_of o + 1) (bare_form b)) (grouped_spells (left_level o) (bare_form a) (tree_spells a h.0)) (grouped_spells (level_of o + 1) (bare_form b) (tree_spells b h.1))

  members_spell : (ts : Trees) → HavePrintableLeaves ts → SpellBehind (bare_forms ts)
  members_spell trees.none h = no_member_spells
  members_spell (trees.more t ts) h = more_members_spell (bare_form t) (bare_forms ts) (tree_spells t h.0) (members_spell ts h.1)

-- a form that had to bind so tightly does
grouped_level : (least : ℕ) (f : Form) → least ≤ 7 → least ≤ level (grouped least f)
grouped_level least f small = by_test (nat_lt (level f) least) refl
  where
    by_test : (is : Bool) → nat_lt (level f) least ≡ is → least ≤ level (if is then Group f else f)
    by_test true e = small
    by_test false e = grind (arith, nat_tests)

grouped_above : (low : ℕ) (f : Form) → low ≤ 6 → low < level (grouped (low + 1) f)
grouped_above low f small = omega (arith, grouped_level (low + 1) f (omega arith))

grouped_formed : (least : ℕ) (f : Form) → IsFormed f → IsFormed (grouped least f)
grouped_formed least f h = by_test (nat_lt (level f) least)
  where
    by_test : (is : Bool) → IsFormed (if is then Group f else f)
    by_test true = h
    by_test false = h

grouped_tree : (least : ℕ) (f : Form) → form_tree (grouped least f) ≡ form_tree f
grouped_tree least f = by_test (nat_lt (level f) least)
  where
    by_test : (is : Bool) → form_tree (if is then Group f else f) ≡ form_tree f
    by_test true = refl
    by_test false = refl

left_level-most : (o : Operator) → left_level o ≤ 7
unfolding left_level
left_level-most operators.Add = lit≤ tt
left_level-most operators.Subtract = lit≤ tt
left_level-most operators.Multiply = lit≤ tt
left_level-most operators.Equal = lit≤ tt
left_level-most operators.NotEqual = lit≤ tt
left_level-most operators.Less = lit≤ tt
left_level-most operators.AtMost = lit≤ tt
left_level-most operators.Greater = lit≤ tt
left_level-most operators.AtLeast = lit≤ tt
left_level-most operators.And = lit≤ tt
left_level-most operators.Or = lit≤ tt

mutual
  -- the form of a tree is one that the grammar has
  tree_formed : (t : Tree) → IsFormed (bare_form t)
  tree_formed (trees.Int z) = tt
  tree_formed (trees.Truth b) = tt
  tree_formed (trees.Text t) = tt
  tree_formed (trees.Name t) = tt
  tree_formed (trees.Members ts) = members_formed ts
  tree_formed (trees.Not t) = tree_formed t
  tree_formed (trees.Minus t) = (grouped_level 6 (bare_form t) (omega arith), grouped_formed 6 (bare_form t) (tree_formed t))
  tree_formed (trees.Binary o a b) =
      (grouped_level (left_level o) (bare_form a) (left_level-most o), grouped_above (level_of o) (bare_form b) (omega (arith, (level_of-between o).1)), grouped_formed (left_level o) (bare_form a) (tree_formed a), grouped_formed (level_of o + 1) (bare_form b) (tree_formed b))

  members_formed : (ts : Trees) → AreFormed (bare_forms ts)
  members_formed trees.none = tt
  members_formed (trees.more t ts) = (tree_formed t, members_formed ts)

binary_same : (o : Operator) (a b c d : Tree) → a ≡ c → b ≡ d → trees.Binary o a b ≡ trees.Binary o c d
binary_same o a b c d h k = rw (h, k) refl

more_same : (a c : Tree) (bs ds : Trees) → a ≡ c → bs ≡ ds → trees.more a bs ≡ trees.more c ds
more_same a c bs ds h k = rw (h, k) refl

mutual
  -- and it has this tree
  tree_is : (t : Tree) → form_tree (bare_form t) ≡ t
  tree_is (trees.Int z) = refl
  tree_is (trees.Truth b) = refl
  tree_is (trees.Text t) = refl
  tree_is (trees.Name t) = refl
  tree_is (trees.Members ts) = ap (λ (us : Trees). trees.Members us) (members_are ts)
  tree_is (trees.Not t) = ap (λ (u : Tree). trees.Not u) (tree_is t)
  tree_is (trees.Minus t) = ap (λ (u : Tree). trees.Minus u) (grouped_tree 6 (bare_form t) ∙ tree_is t)
  tree_is (trees.Binary o a b) =
      binary_same o (form_tree (grouped (left_level o) (bare_form a))) (form_tree (grouped (level_of o + 1) (bare_form b))) a b (grouped_tree (left_level o) (bare_form a) ∙ tree_is a) (grouped_tree (level_of o + 1) (bare_form b) ∙ tree_is b)

  members_are : (ts : Trees) → trees_of (form_trees (bare_forms ts)) ≡ ts
  members_are trees.none = refl
  members_are (trees.more t ts) = more_same (form_tree (bare_form t)) t (trees_of (form_trees (bare_forms ts))) ts (tree_is t) (members_are ts)

-- what is printed of a tree is an expression that has this tree
pub printed_is : (tree : Tree) → IsPrintable tree → IsExpr (printed tree) tree
printed_is tree h = record {
  short = h.short;
  parts = written (bare_form tree) [];
  spelled = (tree_spells tree h.leaves [] [] refl (nothing refl refl)).0;
  are = record { form = bare_form tree; formed = tree_formed tree; few = h.few; tokens = refl; is = tree_is tree };
}

-- and no other
pub printed_only : (tree other : Tree) → IsPrintable tree → IsExpr (printed tree) other → other ≡ tree
printed_only tree other h is = only_read (printed tree) tree other (expr_read-of (printed tree) tree (printed_is tree h)) (expr_read-of (printed tree) other is)

-- Each tree that a text has can be printed, where what is printed isn't too long.
use Rattle.std.proofs.Common.{◌≡◌, ℕ, ◌+◌, ◌<◌, ◌≤◌, ◌^◌, nat_lt, pos, Bool, true, false, if◌then◌else◌, Some, None, List, [], ◌∷◌, ◌++◌, length, subst, refl, sym, ◌∙◌, arith}
use Rattle.std.specs.Prelude.{codes}
use Rattle.std.proofs.lemmas.Bool.Decides.{nat_tests}
use Rattle.zb_process.specs.declared.operator.Operator.TheVariants as operators
use Rattle.zb_process.specs.Tree.{Tree, trees_of}
use Rattle.zb_expr.specs.declared.class.Class.TheVariants as classes
use Rattle.zb_expr.specs.declared.token.Leaf.{Leaf}
use Rattle.zb_expr.specs.declared.token.Leaf.TheVariants as leaves
use Rattle.zb_expr.specs.declared.token.Token.{Token}
use Rattle.zb_expr.specs.declared.token.Token.TheVariants as tokens
use Rattle.zb_expr.specs.Spelling.{begins_name, decimal_after, number_token, are_alike, word_token, sign_alone}
use Rattle.zb_expr.specs.Lexical.{are_in, BeginsWith, number, word, quoted, sign, long, AreSpelled, IsExpr}
use Rattle.zb_expr.specs.Grammar.{Form, Forms, Alone, Group, Negation, Minus, Members, Binary, none, more, level, level_of, left_level, IsFormed, AreFormed, around, around_members, written, written_behind, leaf_tree, form_tree, form_trees}
use Rattle.zb_expr.specs.Printing.{grouped, bare_form, bare_forms, printed, HasPrintableLeaves, HavePrintableLeaves, IsPrintable}

-- a form that binds tightly enough gets no parentheses
ungrouped : (least : ℕ) (g : Form) → least ≤ level g → around (grouped least g) ≡ around g
ungrouped least g tight = by_test (nat_lt (level g) least) refl
  where
    by_test : (is : Bool) → nat_lt (level g) least ≡ is → around (if is then Group g else g) ≡ around g
    by_test true e = absurd (grind (arith, nat_tests))
    by_test false e = refl

-- any form gets one pair at most
grouped_once : (least : ℕ) (g : Form) → around (grouped least g) ≤ around g + 1
grouped_once least g = by_test (nat_lt (level g) least)
  where
    by_test : (is : Bool) → around (if is then Group g else g) ≤ around g + 1
    by_test true = omega arith
    by_test false = omega arith

bare_few : (g : Form) (n : ℕ) → around (grouped 0 g) ≤ n → around g ≤ n
bare_few g n h = omega (arith, h, ungrouped 0 g (omega arith))

leaf_few : (l : Leaf) (least : ℕ) → least ≤ 7 → around (grouped least (bare_form (leaf_tree l))) ≤ 0
leaf_few (leaves.Int z) least k = omega (arith, ungrouped least (Alone (leaves.Int z)) k)
leaf_few (leaves.Bool b) least k = omega (arith, ungrouped least (Alone (leaves.Bool b)) k)
leaf_few (leaves.Text t) least k = omega (arith, ungrouped least (Alone (leaves.Text t)) k)
leaf_few (leaves.Name t) least k = omega (arith, ungrouped least (Alone (leaves.Name t)) k)

mutual
  -- the form that is printed has no more around its leaves than any other form of the tree
  form_few : (f : Form) → IsFormed f → (least : ℕ) → least ≤ level f → around (grouped least (bare_form (form_tree f))) ≤ around f
  form_few (Alone l) h least k = leaf_few l least k
  form_few (Group a) h least k =
      omega (arith, grouped_once least (bare_form (form_tree a)), bare_few (bare_form (form_tree a)) (around a) (form_few a h 0 (omega arith)))
  form_few (Negation a) h least k =
      omega (arith, ungrouped least (Negation (bare_form (form_tree a))) k, bare_few (bare_form (form_tree a)) (around a) (form_few a h 0 (omega arith)))
  form_few (Minus a) h least k =
      omega (arith, ungrouped least (Minus (grouped 6 (bare_form (form_tree a)))) k, form_few a h.1 6 h.0)
  form_few (Members ms) h least k =
      omega (arith, ungrouped least (Members (bare_forms (trees_of (form_trees ms)))) k, members_few ms h)
  form_few (Binary o a b) h least k =
      let left = form_few a h.2 (left_level o) h.0 in
      let right = form_few b h.3 (level_of o + 1) (omega (arith, h.1)) in
      omega (arith, ungrouped least (Binary o (grouped (left_level o) (bare_form (form_tree a))) (grouped (level_of o + 1) (bare_form (form_tree b)))) k, left, right)

  members_few : (ms : Forms) → AreFormed ms → around_members (bare_forms (trees_of (form_trees ms))) ≤ around_members ms
  members_few none h = omega arith
  members_few (more a ms) h =
      let first = bare_few (bare_form (form_tree a)) (around a) (form_few a h.0 0 (omega arith)) in
      omega (arith, first, members_few ms h.1)

-- a token whose leaf, if it is one, can be printed
abbrev pub IsGiven : Token → Type 0
IsGiven (tokens.Leaf l) = HasPrintableLeaves (leaf_tree l)
IsGiven t = Unit {0}

abbrev pub AreGiven : List Token → Type 0
AreGiven [] = Unit {0}
AreGiven (t ∷ ts) = IsGiven t × AreGiven ts

number_given : (ds : List ℕ) (t : Token) → number_token ds ≡ Some t → IsGiven t
number_given ds t is = by_test (nat_lt (decimal_after 0 ds) (2 ^ 63)) refl is
  where
    by_test : (few : Bool) → nat_lt (decimal_after 0 ds) (2 ^ 63) ≡ few → (if few then Some (tokens.Leaf (leaves.Int (pos (decimal_after 0 ds)))) else None) ≡ Some t → IsGiven t
    by_test false e h = absurd cc
    by_test true e h =
        let same : tokens.Leaf (leaves.Int (pos (decimal_after 0 ds))) ≡ t = cc in
        let below : decimal_after 0 ds < 2 ^ 63 = grind (arith, nat_tests) in
        subst IsGiven same below

word_given : (b : ℕ) (bs : List ℕ) (t : Token) → begins_name b ≡ true → are_in classes.Word (b ∷ bs) ≡ true → word_token (b ∷ bs) ≡ t → IsGiven t
word_given b bs t begins all is =
    by_tests (are_alike (b ∷ bs) (codes "and")) (are_alike (b ∷ bs) (codes "or")) (are_alike (b ∷ bs) (codes "not")) (are_alike (b ∷ bs) (codes "true")) (are_alike (b ∷ bs) (codes "false")) is
  where
    by_tests : (p q r s u : Bool) → (if p then tokens.Operator operators.And else (if q then tokens.Operator operators.Or else (if r then tokens.Not else (if s then tokens.Leaf (leaves.Bool true) else (if u then tokens.Leaf (leaves.Bool false) else tokens.Leaf (leaves.Name (b ∷ bs))))))) ≡ t → IsGiven t
    by_tests true q r s u h = subst IsGiven h tt
    by_tests false true r s u h = subst IsGiven h tt
    by_tests false false true s u h = subst IsGiven h tt
    by_tests false false false true u h = subst IsGiven h tt
    by_tests false false false false true h = subst IsGiven h tt
    by_tests false false false false false h = subst IsGiven h (begins, all, is ∙ sym h)

sign_no_leaf : (b : ℕ) (l : Leaf) → sign_alone b ≡ Some (tokens.Leaf l) → ⊥
sign_no_leaf b l h = grind (arith, nat_tests)

sign_given : (b : ℕ) (t : Token) → sign_alone b ≡ Some t → IsGiven t
sign_given b (tokens.Leaf l) h = absurd (sign_no_leaf b l h)
sign_given b t h = tt

-- what is read of a text can be printed
begins_given : (t : Token) (text behind : List ℕ) → BeginsWith t text behind → IsGiven t
begins_given t text behind (number d ds e all ends is) = number_given (d ∷ ds) t is
begins_given t text behind (word b bs e begins all ends is) = word_given b bs t begins all is
begins_given t text behind (quoted content e is) = subst IsGiven is tt
begins_given t text behind (sign b e short is) = sign_given b t is
begins_given t text behind (long b c o e is same) = subst IsGiven same tt

spelled_given : (ts : List Token) (text : List ℕ) → AreSpelled ts text → AreGiven ts
spelled_given [] text h = absurd h
spelled_given (t ∷ []) text h = (begins_given t text [] h, tt)
spelled_given (t ∷ u ∷ ts) text h = (begins_given t text (h.0 ++ h.1) h.2, spelled_given (u ∷ ts) h.1 h.5)

mutual
  -- so the leaves of a form can
  form_given : (f : Form) (rest : List Token) → AreGiven (written f rest) → HasPrintableLeaves (form_tree f) × AreGiven rest
  form_given (Alone l) rest h = (h.0, h.1)
  form_given (Group a) rest h = let x = form_given a (tokens.Close ∷ rest) h.1 in (x.0, x.1.1)
  form_given (Negation a) rest h = let x = form_given a (tokens.Close ∷ rest) h.1.1 in (x.0, x.1.1)
  form_given (Minus a) rest h = form_given a rest h.1
  form_given (Members none) rest h = (tt, h.1.1)
  form_given (Members (more a ms)) rest h =
      let x = form_given a (written_behind ms rest) h.1 in
      let y = members_given ms rest x.1 in
      ((x.0, y.0), y.1)
  form_given (Binary o a b) rest h =
      let x = form_given a (tokens.Operator o ∷ written b rest) h in
      let y = form_given b rest x.1.1 in
      ((x.0, y.0), y.1)

  members_given : (ms : Forms) (rest : List Token) → AreGiven (written_behind ms rest) → HavePrintableLeaves (trees_of (form_trees ms)) × AreGiven rest
  members_given none rest h = (tt, h.1)
  members_given (more a ms) rest h =
      let x = form_given a (written_behind ms rest) h.1 in
      let y = members_given ms rest x.1 in
      ((x.0, y.0), y.1)

-- a tree that a text has can be printed, if what is printed is short enough
pub printable_of : (text : List ℕ) (tree : Tree) → IsExpr text tree → length (printed tree) ≤ 4096 → IsPrintable tree
printable_of text tree h short =
    let form = h.are.form in
    let given : AreGiven (written form []) = subst AreGiven (sym h.are.tokens) (spelled_given h.parts text h.spelled) in
    let bare : around (bare_form (form_tree form)) ≤ around form = bare_few (bare_form (form_tree form)) (around form) (form_few form h.are.formed 0 (omega arith)) in
    let few : around (bare_form (form_tree form)) ≤ 64 = omega (arith, bare, h.are.few) in
    record {
      leaves = subst HasPrintableLeaves h.are.is (form_given form [] given).0;
      few = subst (λ (t : Tree). around (bare_form t) ≤ 64) h.are.is few;
      short = short;
    }

-- Expressions as texts: how a tree is printed, with no more parentheses than the grammar asks for.
use Rattle.std.specs.Prelude.{◌≡◌, ℕ, ◌+◌, ◌<◌, ◌≤◌, ◌^◌, nat_lt, pos, negsuc, true, false, List, [], ◌∷◌, ◌++◌, length, codes, if◌then◌else◌}
use Rattle.std.specs.Fmt.{signed_decimal}
use Rattle.std.specs.Str.{IsUtf8}
use Rattle.zb_process.specs.declared.operator.Operator.{Operator}
use Rattle.zb_process.specs.declared.operator.Operator.TheVariants as operators
use Rattle.zb_process.specs.Tree as trees
use Rattle.zb_process.specs.Tree.{Tree, Trees}
use Rattle.zb_expr.specs.declared.class.Class.TheVariants as classes
use Rattle.zb_expr.specs.declared.token.Leaf.{Leaf}
use Rattle.zb_expr.specs.declared.token.Leaf.TheVariants as leaves
use Rattle.zb_expr.specs.declared.token.Token.TheVariants as tokens
use Rattle.zb_expr.specs.Spelling.{begins_name, word_token}
use Rattle.zb_expr.specs.Lexical.{are_in, backslashed}
use Rattle.zb_expr.specs.Grammar.{Form, Forms, Alone, Group, Negation, Minus, Members, Binary, none, more, level, level_of, left_level, around}

-- a form that binds so tightly at least: in parentheses where it doesn't by itself (own)
abbrev pub grouped : ℕ → Form → Form
grouped least f = if nat_lt (level f) least then Group f else f

abbrev mutual
  -- the form of a tree that has parentheses only where the grammar asks for them (own)
  pub bare_form : Tree → Form
  bare_form (trees.Int z) = Alone (leaves.Int z)
  bare_form (trees.Truth b) = Alone (leaves.Bool b)
  bare_form (trees.Text t) = Alone (leaves.Text t)
  bare_form (trees.Name t) = Alone (leaves.Name t)
  bare_form (trees.Members ts) = Members (bare_forms ts)
  bare_form (trees.Not t) = Negation (bare_form t)
  bare_form (trees.Minus t) = Minus (grouped 6 (bare_form t))
  bare_form (trees.Binary o a b) = Binary o (grouped (left_level o) (bare_form a)) (grouped (level_of o + 1) (bare_form b))

  -- those of members
  pub bare_forms : Trees → Forms
  bare_forms trees.none = none
  bare_forms (trees.more t ts) = more (bare_form t) (bare_forms ts)

-- how a leaf is printed: a whole number in decimal digits, a text in quotes
abbrev pub leaf_printed : Leaf → List ℕ
leaf_printed (leaves.Int z) = signed_decimal z
leaf_printed (leaves.Bool true) = codes "true"
leaf_printed (leaves.Bool false) = codes "false"
leaf_printed (leaves.Text t) = codes "\"" ++ (backslashed t ++ codes "\"")
leaf_printed (leaves.Name t) = t

-- how an operator is printed
abbrev pub operator_printed : Operator → List ℕ
operator_printed operators.Add = codes "+"
operator_printed operators.Subtract = codes "-"
operator_printed operators.Multiply = codes "*"
operator_printed operators.Equal = codes "="
operator_printed operators.NotEqual = codes "!="
operator_printed operators.Less = codes "<"
operator_printed operators.AtMost = codes "<="
operator_printed operators.Greater = codes ">"
operator_printed operators.AtLeast = codes ">="
operator_printed operators.And = codes "and"
operator_printed operators.Or = codes "or"

abbrev mutual
  -- how a form is printed, and these bytes behind it: a space stands on both sides of an operator, and behind a comma (own)
  pub form_printed : Form → List ℕ → List ℕ
  form_printed (Alone l) behind = leaf_printed l ++ behind
  form_printed (Group a) behind = codes "(" ++ form_printed a (codes ")" ++ behind)
  form_printed (Negation a) behind = codes "not(" ++ form_printed a (codes ")" ++ behind)
  form_printed (Minus a) behind = codes "-" ++ form_printed a behind
  form_printed (Members none) behind = codes "[]" ++ behind
  form_printed (Members (more a ms)) behind = codes "[" ++ form_printed a (members_printed ms behind)
  form_printed (Binary o a b) behind = form_printed a (codes " " ++ (operator_printed o ++ (codes " " ++ form_printed b behind)))

  -- the same of further members, up to the end of their list
  pub members_printed : Forms → List ℕ → List ℕ
  members_printed none behind = codes "]" ++ behind
  members_printed (more a ms) behind = codes ", " ++ form_printed a (members_printed ms behind)

-- how a tree is printed (own)
abbrev pub printed : Tree → List ℕ
printed t = form_printed (bare_form t) []

-- a word that is a name: it has no other meaning
abbrev pub IsName : List ℕ → Type 0
IsName [] = ⊥
IsName (b ∷ bs) = (begins_name b ≡ true) × (are_in classes.Word (b ∷ bs) ≡ true) × (word_token (b ∷ bs) ≡ tokens.Leaf (leaves.Name (b ∷ bs)))

abbrev mutual
  -- the leaves of a tree can be printed: whole numbers aren't negative and below 2 ^ 63, as those that are read, and names are names (own)
  pub HasPrintableLeaves : Tree → Type 0
  HasPrintableLeaves (trees.Int (pos n)) = n < 2 ^ 63
  HasPrintableLeaves (trees.Int (negsuc n)) = ⊥
  HasPrintableLeaves (trees.Truth b) = Unit {0}
  HasPrintableLeaves (trees.Text t) = Unit {0}
  HasPrintableLeaves (trees.Name t) = IsName t
  HasPrintableLeaves (trees.Members ts) = HavePrintableLeaves ts
  HasPrintableLeaves (trees.Not t) = HasPrintableLeaves t
  HasPrintableLeaves (trees.Minus t) = HasPrintableLeaves t
  HasPrintableLeaves (trees.Binary o a b) = HasPrintableLeaves a × HasPrintableLeaves b

  -- the same of members
  pub HavePrintableLeaves : Trees → Type 0
  HavePrintableLeaves trees.none = Unit {0}
  HavePrintableLeaves (trees.more t ts) = HasPrintableLeaves t × HavePrintableLeaves ts

abbrev mutual
  -- the texts in a tree are UTF-8
  pub HasUtf8Texts : Tree → Type 0
  HasUtf8Texts (trees.Int z) = Unit {0}
  HasUtf8Texts (trees.Truth b) = Unit {0}
  HasUtf8Texts (trees.Text t) = IsUtf8 t
  HasUtf8Texts (trees.Name t) = Unit {0}
  HasUtf8Texts (trees.Members ts) = HaveUtf8Texts ts
  HasUtf8Texts (trees.Not t) = HasUtf8Texts t
  HasUtf8Texts (trees.Minus t) = HasUtf8Texts t
  HasUtf8Texts (trees.Binary o a b) = HasUtf8Texts a × HasUtf8Texts b

  -- the same of members
  pub HaveUtf8Texts : Trees → Type 0
  HaveUtf8Texts trees.none = Unit {0}
  HaveUtf8Texts (trees.more t ts) = HasUtf8Texts t × HaveUtf8Texts ts

-- a tree that can be printed: its leaves can, and what is printed keeps the limits of the grammar, at most 64 around a leaf, with the parentheses that are printed, and at most 4,096 bytes (own)
pub record IsPrintable (tree : Tree) : Type 0 where
  pub leaves : HasPrintableLeaves tree
  pub few : around (bare_form tree) ≤ 64
  pub short : length (printed tree) ≤ 4096

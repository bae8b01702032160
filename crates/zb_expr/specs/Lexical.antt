-- The lexical grammar of expressions: how tokens are spelled as a text.
use Rattle.std.specs.Prelude.{◌≡◌, ℕ, ◌≤◌, Bool, true, not, ◌&&◌, ◌||◌, ◌==◌, None, Some, List, [], ◌∷◌, ◌++◌, length, if◌then◌else◌}
use Rattle.zb_process.specs.Tree.{Tree}
use Rattle.zb_process.specs.declared.operator.Operator.{Operator}
use Rattle.zb_expr.specs.declared.class.Class.{Class}
use Rattle.zb_expr.specs.declared.class.Class.TheVariants as classes
use Rattle.zb_expr.specs.declared.token.Token.{Token}
use Rattle.zb_expr.specs.declared.token.Token.TheVariants as tokens
use Rattle.zb_expr.specs.Spelling.{is_in, begins_name, first_byte, number_token, word_token, text_token, sign_alone, long_sign}
use Rattle.zb_expr.specs.Grammar.{AreExpression}

-- whether all bytes are of a class
abbrev pub are_in : Class → List ℕ → Bool
are_in class [] = true
are_in class (b ∷ bs) = is_in class b && are_in class bs

-- whether no byte of a class stands first
abbrev pub stops : Class → List ℕ → Bool
stops class [] = true
stops class (b ∷ bs) = not (is_in class b)

-- a text as it stands between quotes: a backslash before each quote and each backslash
abbrev pub backslashed : List ℕ → List ℕ
backslashed [] = []
backslashed (b ∷ bs) = if b == 34 || b == 92 then 92 ∷ b ∷ backslashed bs else b ∷ backslashed bs

-- a token stands at the front of a text, as long as can be, with these bytes behind it (own)
pub data BeginsWith (t : Token) (text behind : List ℕ) : Type 0 where
  number : (d : ℕ) (ds : List ℕ) → text ≡ (d ∷ ds) ++ behind → are_in classes.Digit (d ∷ ds) ≡ true → stops classes.Digit behind ≡ true → number_token (d ∷ ds) ≡ Some t → BeginsWith t text behind
  word : (b : ℕ) (bs : List ℕ) → text ≡ (b ∷ bs) ++ behind → begins_name b ≡ true → are_in classes.Word (b ∷ bs) ≡ true → stops classes.Word behind ≡ true → word_token (b ∷ bs) ≡ t → BeginsWith t text behind
  quoted : (content : List ℕ) → text ≡ 34 ∷ (backslashed content ++ 34 ∷ behind) → text_token content ≡ t → BeginsWith t text behind
  sign : (b : ℕ) → text ≡ b ∷ behind → long_sign b (first_byte behind) ≡ None → sign_alone b ≡ Some t → BeginsWith t text behind
  long : (b c : ℕ) (o : Operator) → text ≡ b ∷ c ∷ behind → long_sign b (Some c) ≡ Some o → tokens.Operator o ≡ t → BeginsWith t text behind

-- a text is spelled by these tokens, one at least, with as many spaces between them as one likes (own)
abbrev pub AreSpelled : List Token → List ℕ → Type 0
AreSpelled [] text = ⊥
AreSpelled (t ∷ []) text = BeginsWith t text []
AreSpelled (t ∷ u ∷ ts) text = (spaces : List ℕ) × (behind : List ℕ) × BeginsWith t text (spaces ++ behind) × (are_in classes.Space spaces ≡ true) × (stops classes.Space behind ≡ true) × AreSpelled (u ∷ ts) behind

-- the text is an expression, which has this tree
pub record IsExpr (text : List ℕ) (tree : Tree) : Type 0 where
  pub short : length text ≤ 4096
  pub parts : List Token
  pub spelled : AreSpelled parts text
  pub are : AreExpression parts tree

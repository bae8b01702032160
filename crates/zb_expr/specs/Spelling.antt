-- How a text is split into tokens, from left to right. That it is spelled by these tokens is proved.
use Rattle.std.specs.Prelude.{ℕ, zero, suc, ◌+◌, ◌-◌, ◌*◌, ◌^◌, nat_lt, ◌==◌, pos, Bool, true, false, not, ◌&&◌, ◌||◌, Option, None, Some, List, [], ◌∷◌, ◌++◌, length, take, drop, codes, if◌then◌else◌}
use Rattle.std.specs.List.{prefix_len}
use Rattle.std.specs.Ordering.{nat_cmp, is_eq}
use Rattle.std.specs.Cmp.Lexicographic.{slice_cmp}
use Rattle.zb_format.specs.Reading.{◌>>=◌}
use Rattle.zb_process.specs.declared.operator.Operator.{Operator}
use Rattle.zb_process.specs.declared.operator.Operator.TheVariants as operators
use Rattle.zb_expr.specs.declared.class.Class.{Class}
use Rattle.zb_expr.specs.declared.class.Class.TheVariants as classes
use Rattle.zb_expr.specs.declared.token.Leaf.TheVariants as leaves
use Rattle.zb_expr.specs.declared.token.Token.{Token}
use Rattle.zb_expr.specs.declared.token.Token.TheVariants as tokens

-- from one byte to another
abbrev pub is_byte_between : ℕ → ℕ → ℕ → Bool
is_byte_between low high b = not (nat_lt b low) && not (nat_lt high b)

-- 0 to 9
abbrev pub is_decimal : ℕ → Bool
is_decimal b = is_byte_between 48 57 b

-- A to Z, a to z and _
abbrev pub begins_name : ℕ → Bool
begins_name b = is_byte_between 65 90 b || (is_byte_between 97 122 b || b == 95)

-- whether a byte is of a class
abbrev pub is_in : Class → ℕ → Bool
is_in classes.Digit b = is_decimal b
is_in classes.Word b = begins_name b || is_decimal b
is_in classes.Space b = b == 32

-- the bytes of the class that stand first, as many as there are
abbrev pub run_of : Class → List ℕ → List ℕ
run_of class bytes = take (prefix_len (is_in class) bytes) bytes

-- the bytes behind them
abbrev pub behind_run : Class → List ℕ → List ℕ
behind_run class bytes = drop (prefix_len (is_in class) bytes) bytes

-- the first byte
abbrev pub first_byte : List ℕ → Option ℕ
first_byte [] = None
first_byte (b ∷ bs) = Some b

-- what there is, with what stands behind it
abbrev pub with_behind : Option Token → List ℕ → Option (Token × List ℕ)
with_behind (Some t) behind = Some (t, behind)
with_behind None behind = None

-- the number that decimal digits write behind a number
abbrev pub decimal_after : ℕ → List ℕ → ℕ
decimal_after n [] = n
decimal_after n (d ∷ ds) = decimal_after (10 * n + (d - 48)) ds

-- the whole number that digits write, where it is below 2 ^ 63
abbrev pub number_token : List ℕ → Option Token
number_token digits = if nat_lt (decimal_after 0 digits) (2 ^ 63) then Some (tokens.Leaf (leaves.Int (pos (decimal_after 0 digits)))) else None

-- whether two texts are one
abbrev pub are_alike : List ℕ → List ℕ → Bool
are_alike a b = is_eq (slice_cmp nat_cmp a b)

-- the token of a word: five words have a meaning, and each other one is a name
abbrev pub word_token : List ℕ → Token
word_token w =
    if are_alike w (codes "and") then tokens.Operator operators.And else
    (if are_alike w (codes "or") then tokens.Operator operators.Or else
    (if are_alike w (codes "not") then tokens.Not else
    (if are_alike w (codes "true") then tokens.Leaf (leaves.Bool true) else
    (if are_alike w (codes "false") then tokens.Leaf (leaves.Bool false) else tokens.Leaf (leaves.Name w)))))

-- the token of a text in quotes
abbrev pub text_token : List ℕ → Token
text_token t = tokens.Leaf (leaves.Text t)

-- the bytes up to the next quote, behind these, and the bytes behind the quote; a backslash stands before what is meant itself
abbrev pub quoted_after : Bool → List ℕ → List ℕ → Option (List ℕ × List ℕ)
quoted_after escaped so_far [] = None
quoted_after true so_far (b ∷ bs) = if b == 34 || b == 92 then quoted_after false (so_far ++ b ∷ []) bs else None
quoted_after false so_far (b ∷ bs) = if b == 34 then Some (so_far, bs) else (if b == 92 then quoted_after true so_far bs else quoted_after false (so_far ++ b ∷ []) bs)

-- the operator that a sign and a '=' behind it are
abbrev pub sign_and_equal : ℕ → Option Operator
sign_and_equal b = if b == 33 then Some operators.NotEqual else (if b == 60 then Some operators.AtMost else (if b == 62 then Some operators.AtLeast else None))

-- the token that a sign by itself is
abbrev pub sign_alone : ℕ → Option Token
sign_alone b =
    if b == 40 then Some tokens.Open else (if b == 41 then Some tokens.Close else
    (if b == 91 then Some tokens.OpenList else (if b == 93 then Some tokens.CloseList else
    (if b == 44 then Some tokens.Comma else (if b == 43 then Some (tokens.Operator operators.Add) else
    (if b == 45 then Some (tokens.Operator operators.Subtract) else (if b == 42 then Some (tokens.Operator operators.Multiply) else
    (if b == 61 then Some (tokens.Operator operators.Equal) else (if b == 60 then Some (tokens.Operator operators.Less) else
    (if b == 62 then Some (tokens.Operator operators.Greater) else None))))))))))

-- the operator that a sign is with the byte behind it
abbrev pub long_sign : ℕ → Option ℕ → Option Operator
long_sign b None = None
long_sign b (Some next) = if next == 61 then sign_and_equal b else None

-- the token of the longer sign, where there is one, else of the shorter one
abbrev pub sign_by : Option Operator → ℕ → List ℕ → Option (Token × List ℕ)
sign_by (Some o) b behind = Some (tokens.Operator o, drop 1 behind)
sign_by None b behind = with_behind (sign_alone b) behind

-- the token of a sign, with the bytes behind its first one
abbrev pub sign_at : ℕ → List ℕ → Option (Token × List ℕ)
sign_at b behind = sign_by (long_sign b (first_byte behind)) b behind

-- the token of a text, behind its first quote
abbrev pub text_at_quote : List ℕ → Option (Token × List ℕ)
text_at_quote bytes = quoted_after false [] bytes >>= (λ x. Some (text_token x.0, x.1))

-- the token that begins with this byte, at the front of these
abbrev pub token_by : Option ℕ → List ℕ → Option (Token × List ℕ)
token_by None bytes = None
token_by (Some b) bytes =
    if is_decimal b then with_behind (number_token (run_of classes.Digit bytes)) (behind_run classes.Digit bytes) else
    (if begins_name b then Some (word_token (run_of classes.Word bytes), behind_run classes.Word bytes) else
    (if b == 34 then text_at_quote (drop 1 bytes) else sign_at b (drop 1 bytes)))

-- the first token
unfoldable pub token_at : List ℕ → Option (Token × List ℕ)
token_at bytes = token_by (first_byte bytes) bytes

-- these where no bytes are left, else what the others make
abbrev pub where_left : {A : Type 0} → List ℕ → A → (List ℕ → Option A) → Option A
where_left [] x f = Some x
where_left (b ∷ bs) x f = f (b ∷ bs)

-- the tokens behind these, at most so many, and spaces between them
abbrev pub tokens_after : ℕ → List Token → List ℕ → Option (List Token)
tokens_after zero so_far bytes = None
tokens_after (suc n) so_far bytes = token_at bytes >>= (λ x. where_left x.1 (so_far ++ x.0 ∷ []) (λ left. tokens_after n (so_far ++ x.0 ∷ []) (behind_run classes.Space left)))

-- the tokens of a text
abbrev pub tokens_of : List ℕ → Option (List Token)
tokens_of text = tokens_after (length text) [] text

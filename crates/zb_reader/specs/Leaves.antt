-- What a value may be that is neither an object nor a list, and the texts that stand for expressions.
use Rattle.std.specs.Prelude.{ℕ, ◌==◌, List, [], ◌∷◌, length, Bool, ◌&&◌, false, nat_le, is_some, if◌then◌else◌, Option, Some, None, option_and_then}
use Rattle.std.specs.Option.{option_map_or}
use Rattle.serde_json.specs.Data.{Data}
use Rattle.serde_json.specs.Find.{as_str, as_number, as_u64}
use Rattle.zb_process.specs.Tree.{Tree, Text}
use Rattle.zb_expr.specs.Reading.{expr_read}

-- a text of at most so many bytes (RFC 8259, section 7)
abbrev pub is_short : ℕ → Data → Bool
is_short most d = option_map_or (λ s. nat_le (length s) most) (as_str d) false

-- the number of 64 bits without sign that a value is (RFC 8259, section 6)
abbrev pub unsigned_of : Data → Option ℕ
unsigned_of d = option_and_then as_u64 (as_number d)

-- a whole number from the first of these to the second
abbrev pub is_between : ℕ → ℕ → Data → Bool
is_between least most d = option_map_or (λ n. nat_le least n && nat_le n most) (unsigned_of d) false

-- the text behind the sign `=`, which is that of an expression (own)
abbrev pub formula_in : List ℕ → Option (List ℕ)
formula_in [] = None
formula_in (b ∷ bs) = if b == 61 then Some bs else None

-- the expression that a text stands for: the one behind the sign, and the text itself where there is no sign (own)
abbrev pub source_of : List ℕ → Option Tree
source_of s = option_map_or expr_read (formula_in s) (Some (Text s))

-- a text that stands for an expression, and has at most so many bytes where it is one without the sign (own)
abbrev pub is_source : ℕ → List ℕ → Bool
is_source most s = option_map_or (λ text. is_some (expr_read text)) (formula_in s) (nat_le (length s) most)

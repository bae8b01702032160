-- The spelling of a field: numbers are big-endian, and a text or a list begins with its length in four bytes.
use Rattle.std.specs.Prelude.{ℕ, ℤ, Bool, true, false, Option, None, Some, List, [], ◌∷◌, ◌++◌, length}
use Rattle.std.specs.List.{flat_map}
use Rattle.std.specs.Int.{w32, w64, to_be_bytes, cast_unsigned}
use Rattle.zb_base.specs.declared.value.Value.{Value}
use Rattle.zb_base.specs.declared.value.Value.TheVariants as values

-- a number, in four bytes
unfoldable pub number_bytes : ℕ → List ℕ
number_bytes n = to_be_bytes w32 n

-- a key, a moment or a count of milliseconds, in eight bytes
unfoldable pub long_bytes : ℕ → List ℕ
long_bytes n = to_be_bytes w64 n

-- a whole number with a sign, in eight bytes of two's complement
unfoldable pub signed_bytes : ℤ → List ℕ
signed_bytes z = to_be_bytes w64 (cast_unsigned w64 z)

-- the byte of a truth value
abbrev pub truth_byte : Bool → ℕ
truth_byte false = 0
truth_byte true = 1

-- a truth value
abbrev pub flag_bytes : Bool → List ℕ
flag_bytes b = truth_byte b ∷ []

-- a text in UTF-8
unfoldable pub text_bytes : List ℕ → List ℕ
text_bytes bytes = number_bytes (length bytes) ++ bytes

-- a list, each member in its own spelling
unfoldable pub counted_bytes : {A : Type 0} → (A → List ℕ) → List A → List ℕ
counted_bytes spell members = number_bytes (length members) ++ flat_map spell members

-- the value of a variable
unfoldable pub value_bytes : Value → List ℕ
value_bytes (values.Int z) = 0 ∷ signed_bytes z
value_bytes (values.Bool b) = 1 ∷ flag_bytes b
value_bytes (values.Text t) = 2 ∷ text_bytes t
value_bytes (values.List zs) = 3 ∷ counted_bytes signed_bytes zs

-- what may be absent
abbrev pub optional_bytes : {A : Type 0} → (A → List ℕ) → Option A → List ℕ
optional_bytes spell None = 0 ∷ []
optional_bytes spell (Some x) = 1 ∷ spell x

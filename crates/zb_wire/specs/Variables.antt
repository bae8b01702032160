-- The variables that an object stands for (RFC 8259, section 4). A variable's value is a whole number of 64
-- bits with sign, a truth value, a text or a list of such numbers.
use Rattle.std.specs.Prelude.{ℕ, ℤ, List, [], ◌∷◌, length, Bool, true, false, ◌&&◌, ◌||◌, nat_le, is_some, if◌then◌else◌, Option, Some, None, option_map, option_and_then}
use Rattle.serde_json.specs.Data.{Data, null, boolean, number, string, array, object, Items, no_items, item, Members, no_members, member}
use Rattle.serde_json.specs.Find.{as_number, as_i64}
use Rattle.zb_reader.specs.Leaves.{unsigned_of}
use Rattle.zb_base.specs.declared.value.Value.{Value}
use Rattle.zb_base.specs.declared.value.Value.TheVariants as values
use Rattle.zb_base.specs.declared.vars.Variable.{Variable}

-- a name has at most so many bytes (own)
abbrev pub longest_name : ℕ
longest_name = 255

-- the text of a variable has at most so many bytes, and so has a message of a job that failed (own)
abbrev pub longest_text : ℕ
longest_text = 32768

-- the number of 64 bits with sign that a value is (RFC 8259, section 6)
abbrev pub signed_of : Data → Option ℤ
signed_of d = option_and_then as_i64 (as_number d)

-- a whole number of 64 bits, with sign or without (RFC 8259, section 6)
abbrev pub is_whole : Data → Bool
is_whole d = is_some (unsigned_of d) || is_some (signed_of d)

-- each item is a whole number (own)
abbrev pub are_whole : Items → Bool
are_whole no_items = true
are_whole (item d ds) = is_whole d && are_whole ds

-- a value of a kind that a variable may have (own)
abbrev pub is_variable : Data → Bool
is_variable null = false
is_variable (boolean b) = true
is_variable (number n) = is_whole (number n)
is_variable (string s) = true
is_variable (array ds) = are_whole ds
is_variable (object ms) = false

-- each member has a value of such a kind (own)
abbrev pub all_variables : Members → Bool
all_variables no_members = true
all_variables (member name d ms) = is_variable d && all_variables ms

-- the numbers of a list; None where one of them is no number of 64 bits with sign (own)
abbrev pub numbers_of : Items → Option (List ℤ)
numbers_of no_items = Some []
numbers_of (item d ds) = option_and_then (λ z. option_map (λ zs. z ∷ zs) (numbers_of ds)) (signed_of d)

-- the text of a variable, if it isn't too long (own)
abbrev pub short_text : List ℕ → Option (List ℕ)
short_text s = if nat_le (length s) longest_text then Some s else None

-- what a variable of this value holds; None where it is outside the limits (own)
abbrev pub variable_value : Data → Option Value
variable_value null = None
variable_value (boolean b) = Some (values.Bool b)
variable_value (number n) = option_map values.Int (as_i64 n)
variable_value (string s) = option_map values.Text (short_text s)
variable_value (array ds) = option_map values.List (numbers_of ds)
variable_value (object ms) = None

-- the variable that a member is; None where its name or its value is outside the limits (own)
abbrev pub variable_of : List ℕ → Data → Option Variable
variable_of name d = if nat_le (length name) longest_name then option_map (λ value. record { name = name; value = value }) (variable_value d) else None

-- the variables that the members are, in byte order of their names; None where one is outside the limits (own)
abbrev pub variables_of : Members → Option (List Variable)
variables_of no_members = Some []
variables_of (member name d ms) = option_and_then (λ v. option_map (λ vs. v ∷ vs) (variables_of ms)) (variable_of name d)

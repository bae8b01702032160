-- How bytes are read: what stands at their front, and the bytes behind it; None where nothing that is spelled so stands there.
use Rattle.std.specs.Prelude.{◌≡◌, ℕ, ℤ, zero, suc, Bool, true, false, Option, None, Some, Result, Ok, Err, List, [], ◌∷◌, length, take, drop, nat_lt, ◌==◌, if◌then◌else◌}
use Rattle.std.specs.Int.{w32, w64, from_be_bytes, cast_signed}
use Rattle.std.specs.Str.{is_utf8}
use Rattle.zb_base.specs.declared.value.Value.{Value}
use Rattle.zb_base.specs.declared.value.Value.TheVariants as values
use Rattle.zb_format.specs.Field.{truth_byte}
use Rattle.zb_format.specs.declared.fault.ReadFault.{ReadFault}
use Rattle.zb_format.specs.declared.fault.ReadFault.TheVariants as faults

-- what a kind of value is at the front of bytes, and the bytes behind it
abbrev pub Reader : Type 0 → Type 0
Reader A = List ℕ → Option (A × List ℕ)

-- what a function answered, seen by view, is what reading gives, and it leaves these bytes, unless memory ran out
abbrev pub ReadsAs : {A B : Type 0} → (A → B) → Option (B × List ℕ) → Result A ReadFault → List ℕ → Type 0
ReadsAs view read (Ok x) rest = read ≡ Some (view x, rest)
ReadsAs view read (Err faults.NotSpelled) rest = read ≡ None
ReadsAs view read (Err faults.Memory) rest = Unit {0}

-- the same of an answer as it is
abbrev pub Reads : {A : Type 0} → Option (A × List ℕ) → Result A ReadFault → List ℕ → Type 0
Reads read answer rest = ReadsAs (λ x. x) read answer rest

infixl 10 ◌>>=◌
-- what follows what was read, where something was
abbrev pub ◌>>=◌ : {A B : Type 0} → Option A → (A → Option B) → Option B
(Some x) >>= f = f x
None >>= f = None

-- the first n bytes
abbrev pub front_at : ℕ → Reader (List ℕ)
front_at n bytes = if nat_lt (length bytes) n then None else Some (take n bytes, drop n bytes)

-- one byte
abbrev pub byte_at : Reader ℕ
byte_at [] = None
byte_at (b ∷ rest) = Some (b, rest)

-- one thing behind another
abbrev pub both_at : {A B : Type 0} → Reader A → Reader B → Reader (A × B)
both_at first second bytes = do
  x ← first bytes
  y ← second x.1
  Some ((x.0, y.0), y.1)

-- what is made of what is read
abbrev pub made_at : {A B : Type 0} → (A → B) → Reader A → Reader B
made_at make read bytes = do
  x ← read bytes
  Some (make x.0, x.1)

-- what stands there is passed over, and nothing is made of it
abbrev pub skipped_at : {A : Type 0} → Reader A → Reader (Unit {0})
skipped_at read = made_at (λ x. tt) read

-- what is made of what is read, where it is something's spelling
abbrev pub chosen_at : {A B : Type 0} → (A → Option B) → Reader A → Reader B
chosen_at choose read bytes = do
  x ← read bytes
  y ← choose x.0
  Some (y, x.1)

-- what passes a test
abbrev pub passed : {A : Type 0} → (A → Bool) → A → Option A
passed test x = if test x then Some x else None

-- nothing is read
abbrev pub empty_at : Reader (Unit {0})
empty_at bytes = Some (tt, bytes)

-- a byte for the kind, and what stands behind it
abbrev pub tagged_at : {A : Type 0} → (ℕ → Reader A) → Reader A
tagged_at behind bytes = do
  tag ← byte_at bytes
  behind tag.0 tag.1

-- behind this byte, what is made of what is read; behind any other, what the others say
abbrev pub arm : {A B : Type 0} → ℕ → (A → B) → Reader A → (ℕ → Reader B) → ℕ → Reader B
arm n make read others tag bytes = if tag == n then made_at make read bytes else others tag bytes

-- behind any byte, nothing
abbrev pub no_arm : {B : Type 0} → ℕ → Reader B
no_arm tag bytes = None

-- the first of these values that a byte stands for
abbrev pub one_of : {A : Type 0} → (A → ℕ) → List A → ℕ → Option A
one_of byte [] b = None
one_of byte (x ∷ xs) b = if byte x == b then Some x else one_of byte xs b

-- a truth value
abbrev pub flag_at : Reader Bool
flag_at = chosen_at (one_of truth_byte (false ∷ true ∷ [])) byte_at

-- a number of four bytes
unfoldable pub number_at : Reader ℕ
number_at = made_at (from_be_bytes w32) (front_at 4)

-- a number of eight bytes
unfoldable pub long_at : Reader ℕ
long_at = made_at (from_be_bytes w64) (front_at 8)

-- so many values
abbrev pub many_at : {A : Type 0} → Reader A → ℕ → Reader (List A)
many_at read zero bytes = Some ([], bytes)
many_at read (suc n) bytes = do
  x ← read bytes
  xs ← many_at read n x.1
  Some (x.0 ∷ xs.0, xs.1)

-- a list behind its length
unfoldable pub counted_at : {A : Type 0} → Reader A → Reader (List A)
counted_at read bytes = do
  n ← number_at bytes
  many_at read n.0 n.1

-- a whole number with a sign
unfoldable pub signed_at : Reader ℤ
signed_at = made_at (cast_signed w64) long_at

-- a text behind its length
unfoldable pub text_at : Reader (List ℕ)
text_at bytes = do
  n ← number_at bytes
  chosen_at (passed is_utf8) (front_at n.0) n.1

-- what may be absent
abbrev pub optional_at : {A : Type 0} → Reader A → Reader (Option A)
optional_at read = tagged_at (arm 0 (λ u. None) empty_at (arm 1 Some read no_arm))

-- the value of a variable
unfoldable pub value_at : Reader Value
value_at = tagged_at (arm 0 values.Int signed_at (arm 1 values.Bool flag_at (arm 2 values.Text text_at (arm 3 values.List (counted_at signed_at) no_arm))))

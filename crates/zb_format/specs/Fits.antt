-- What has a spelling: numbers that fit their bytes, texts in UTF-8, and lists and texts whose length fits four bytes.
use Rattle.std.specs.Prelude.{ℕ, ◌<◌, ◌^◌, ℤ, FitsSigned, Option, None, Some, List, length, IsTrue}
use Rattle.std.specs.List.{AllByRecursion}
use Rattle.std.specs.Int.{w64}
use Rattle.std.specs.Str.{is_utf8}
use Rattle.zb_base.specs.declared.value.Value.{Value}
use Rattle.zb_base.specs.declared.value.Value.TheVariants as values

-- each value of the type has a spelling
abbrev pub IsAny : {A : Type 0} → A → Type 0
IsAny x = Unit {0}

-- a number that fits four bytes
abbrev pub IsNumber : ℕ → Type 0
IsNumber n = n < 2 ^ 32

-- a number that fits eight bytes
abbrev pub IsLong : ℕ → Type 0
IsLong n = n < 2 ^ 64

-- a whole number, with its sign, that fits eight bytes
abbrev pub IsSigned : ℤ → Type 0
IsSigned z = FitsSigned w64 z

-- a text in UTF-8 whose length fits four bytes
abbrev pub IsText : List ℕ → Type 0
IsText bytes = (length bytes < 2 ^ 32) × IsTrue (is_utf8 bytes)

-- a list whose members are such
abbrev pub AreCounted : {A : Type 0} → (A → Type 0) → List A → Type 0
AreCounted Is xs = (length xs < 2 ^ 32) × AllByRecursion Is xs

-- what is there is such; nothing always is
abbrev pub IsOptional : {A : Type 0} → (A → Type 0) → Option A → Type 0
IsOptional Is None = Unit {0}
IsOptional Is (Some x) = Is x

-- a variable's value whose numbers, texts and lists are such
abbrev pub IsValue : Value → Type 0
IsValue (values.Int z) = IsSigned z
IsValue (values.Bool b) = Unit {0}
IsValue (values.Text t) = IsText t
IsValue (values.List zs) = AreCounted IsSigned zs

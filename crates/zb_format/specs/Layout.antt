-- Layouts: how values stand in bytes, and layouts made of others.
use Rattle.std.proofs.Common.{◌≡◌, ℕ, ℤ, Bool, Option, Some, List, [], ◌∷◌, ◌++◌, refl}
use Rattle.std.specs.Prelude.{IsTrue}
use Rattle.zb_base.specs.declared.value.Value.{Value}
use Rattle.zb_base.specs.declared.vars.Variable.{Variable}
use Rattle.zb_base.specs.declared.pair.Pair.{Pair}
use Rattle.zb_base.specs.Vars.{is_ascending}
use Rattle.zb_format.specs.Field as fields
use Rattle.zb_format.specs.Fits as fit
use Rattle.zb_format.specs.FormatLaws as laws
use Rattle.zb_format.specs.Law.{IsFormat}
use Rattle.zb_format.specs.Reading as readings
use Rattle.zb_format.specs.Reading.{Reader}

-- a layout of values: the one spelling of each, which values have one, how they are read, and that these undo each other
pub record Layout (A : Type 0) : Type 1 where
  pub spelling : A → List ℕ
  pub fits : A → Type 0
  pub reading : Reader A
  pub law : IsFormat spelling fits reading

-- a number, in four bytes
unfoldable pub number : Layout ℕ
number = record { spelling = fields.number_bytes; fits = fit.IsNumber; reading = readings.number_at; law = laws.number_format }

-- a key, a moment or a count of milliseconds, in eight bytes
unfoldable pub long : Layout ℕ
long = record { spelling = fields.long_bytes; fits = fit.IsLong; reading = readings.long_at; law = laws.long_format }

-- a whole number with a sign, in eight bytes of two's complement
unfoldable pub signed : Layout ℤ
signed = record { spelling = fields.signed_bytes; fits = fit.IsSigned; reading = readings.signed_at; law = laws.signed_format }

-- a truth value, in one byte
unfoldable pub flag : Layout Bool
flag = record { spelling = fields.flag_bytes; fits = fit.IsAny; reading = readings.flag_at; law = laws.flag_format }

-- a text in UTF-8, behind its length
unfoldable pub text : Layout (List ℕ)
text = record { spelling = fields.text_bytes; fits = fit.IsText; reading = readings.text_at; law = laws.text_format }

-- the value of a variable
unfoldable pub value : Layout Value
value = record { spelling = fields.value_bytes; fits = fit.IsValue; reading = readings.value_at; law = laws.value_format }

-- nothing, in no bytes
abbrev pub empty : Layout (Unit {0})
empty = record { spelling = λ u. []; fits = fit.IsAny; reading = readings.empty_at; law = laws.empty_format }

-- one of these values, each by its byte
abbrev pub by_byte : {A : Type 0} (byte : A → ℕ) (all : List A) → ((x : A) → readings.one_of byte all (byte x) ≡ Some x) → Layout A
by_byte byte all known = record {
  spelling = λ x. byte x ∷ [];
  fits = fit.IsAny;
  reading = readings.chosen_at (readings.one_of byte all) readings.byte_at;
  law = laws.byte_format byte all known;
}

-- one thing behind another
abbrev pub both : {A B : Type 0} → Layout A → Layout B → Layout (A × B)
both first second = record {
  spelling = λ p. first.spelling p.0 ++ second.spelling p.1;
  fits = λ p. first.fits p.0 × second.fits p.1;
  reading = readings.both_at first.reading second.reading;
  law = laws.both_format first.law second.law;
}

-- what is made of others, and comes apart into them again
abbrev pub made : {A B : Type 0} → (from : B → A) (make : A → B) → ((b : B) → make (from b) ≡ b) → ((a : A) → from (make a) ≡ a) → Layout A → Layout B
made from make whole apart parts = record {
  spelling = λ b. parts.spelling (from b);
  fits = λ b. parts.fits (from b);
  reading = readings.made_at make parts.reading;
  law = laws.made_format from (λ b h. (whole b, h)) (λ a h. (apart a, laws.fits_again from make parts.fits a (apart a) h)) parts.law;
}

-- what passes a test
abbrev pub passing : {A : Type 0} → (A → Bool) → Layout A → Layout A
passing test each = record {
  spelling = each.spelling;
  fits = λ x. each.fits x × IsTrue (test x);
  reading = readings.chosen_at (readings.passed test) each.reading;
  law = laws.passing_format test each.law;
}

-- a list behind its length
abbrev pub counted : {A : Type 0} → Layout A → Layout (List A)
counted each = record { spelling = fields.counted_bytes each.spelling; fits = fit.AreCounted each.fits; reading = readings.counted_at each.reading; law = laws.counted_format each.law }

-- what may be absent
abbrev pub optional : {A : Type 0} → Layout A → Layout (Option A)
optional each = record { spelling = fields.optional_bytes each.spelling; fits = fit.IsOptional each.fits; reading = readings.optional_at each.reading; law = laws.optional_format each.law }

-- a variable
unfoldable pub variable : Layout Variable
variable = made (λ v. (v.name, v.value)) (λ p. record { name = p.0; value = p.1 }) (λ v. refl) (λ p. refl) (both text value)

-- variables, their names strictly ascending
unfoldable pub variables : Layout (List Variable)
variables = passing is_ascending (counted variable)

-- a pair of texts
unfoldable pub pair : Layout Pair
pair = made (λ p. (p.from, p.to)) (λ t. record { from = t.0; to = t.1 }) (λ p. refl) (λ t. refl) (both text text)

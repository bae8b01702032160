-- Which value a line is.
use Rattle.std.proofs.Common.{◌≡◌, ℕ, List, Bool, true, false, if◌then◌else◌, Option, Some, None, Ok, Err, refl}
use Rattle.std.proofs.lemmas.Str.{is_utf8-from_IsUtf8, IsUtf8-from_is_utf8}
use Rattle.std.specs.Str.{IsUtf8, is_utf8}
use Rattle.serde_json.specs.Data.{Data}
use Rattle.serde_json.specs.Errors.{IsMemory}
use Rattle.serde_json.specs.Read.{read}
use Rattle.serde_json.specs.declared.error.Error.{Error}
use Rattle.zb_wire.specs.Reading.{ReadsValue, Blames}
use Rattle.zb_wire.specs.Request.{or_fault, value_in}
use Rattle.zb_wire.specs.declared.request.LineFault.{LineFault}
use Rattle.zb_wire.specs.declared.request.LineFault.TheVariants as faults

-- a text in UTF-8 has the value that it is
pub value_in-read : (line : List ℕ) (d : Data) → IsUtf8 line → read line ≡ Some d → value_in line ≡ Ok d
value_in-read line d text is = rw (is_utf8-from_IsUtf8 line text, is)

none_of : (b : Bool) (o : Option Data) → (b ≡ true → o ≡ None) → or_fault faults.NotJson (if b then o else None) ≡ Err faults.NotJson
none_of true o h = rw (h refl)
none_of false o h = refl

-- a line that is no text, or no JSON, has no value
pub value_in-refused : (line : List ℕ) → (IsUtf8 line → read line ≡ None) → value_in line ≡ Err faults.NotJson
value_in-refused line refused = none_of (is_utf8 line) (read line) (λ h. refused (IsUtf8-from_is_utf8 line h))

-- what an error of the JSON reader says of a line
pub blamed : (line : List ℕ) (fault : LineFault) (e : Error) → Blames fault e → (¬ (IsMemory e) → IsUtf8 line → read line ≡ None) → ReadsValue (Err fault) (value_in line)
blamed line faults.NotJson e blames refused = value_in-refused line (refused blames)
blamed line faults.Memory e blames refused = tt
blamed line faults.TooLong e blames refused = absurd blames
blamed line faults.NotObject e blames refused = absurd blames
blamed line faults.NoOp e blames refused = absurd blames
blamed line faults.UnknownOp e blames refused = absurd blames
blamed line (faults.Field field path) e blames refused = absurd blames
blamed line (faults.Range field) e blames refused = absurd blames

pub ruleset value_laws = (value_in-read, blamed)

-- What the private functions that read a line promise one another, and what the code's tables of fields say.
use Rattle.std.specs.Prelude.{◌≡◌, ℕ, List, Option, option_map, Result, Ok, Err}
use denote.Bor.{Bor}
use Rattle.serde_json.specs.Data.{Data}
use Rattle.serde_json.specs.Errors.{IsMemory}
use Rattle.serde_json.specs.View.{view}
use Rattle.serde_json.specs.declared.error.Error.{Error}
use Rattle.serde_json.specs.declared.value.Value.{Value}
use Rattle.zb_wire.specs.Fields.{FieldRule, must, may}
use Rattle.zb_wire.specs.declared.fields.Field.{Field}
use Rattle.zb_wire.specs.declared.fields.Field.TheVariants as fields
use Rattle.zb_wire.specs.declared.request.LineFault.{LineFault}
use Rattle.zb_wire.specs.declared.request.LineFault.TheVariants as faults

-- this value was found, or this fault, unless memory ran out
abbrev pub ReadsValue : Result Value LineFault → Result Data LineFault → Type 0
ReadsValue (Ok value) found = found ≡ Ok (view value)
ReadsValue (Err faults.Memory) found = Unit {0}
ReadsValue (Err fault) found = found ≡ Err fault

-- a fault that tells want of memory from a text that is no JSON
abbrev pub Blames : LineFault → Error → Type 0
Blames faults.NotJson e = ¬ (IsMemory e)
Blames faults.Memory e = IsMemory e
Blames fault e = ⊥

-- the field that a row of a table is
abbrev pub field_of : Field → FieldRule
field_of (fields.Must name kind) = must name.now kind
field_of (fields.May name kind) = may name.now kind

-- the value of a field, where it was found
abbrev pub data_of : Option (Bor Value) → Option Data
data_of found = option_map (λ value. view value.now) found

-- the fault of a field of this name that is outside its limits
abbrev pub range_of : Option (Bor (List ℕ)) → Option LineFault
range_of name = option_map (λ n. faults.Range n.now) name

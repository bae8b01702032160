-- The fields of a request's line, what each may hold, and what is wrong with a line that has others.
use Rattle.std.specs.Prelude.{ℕ, List, [], codes, Bool, true, false, ◌||◌, min, is_some, if◌then◌else◌, Option, Some, None, option_map, option_and_then, unwrap_or}
use Rattle.std.specs.Option.{option_map_or, option_or}
use Rattle.std.specs.List.{list_any}
use Rattle.std.specs.Str.{bytes_eq}
use Rattle.serde_json.specs.Data.{Data, null, Members, no_members, member}
use Rattle.serde_json.specs.Find.{get, as_str, as_bool, as_object}
use Rattle.zb_base.specs.declared.vars.Variable.{Variable}
use Rattle.zb_process.specs.declared.model.Model.{Model}
use Rattle.zb_reader.specs.Layout.{model_of}
use Rattle.zb_reader.specs.Leaves.{unsigned_of, is_short, is_between}
use Rattle.zb_reader.specs.Shapes.{place_in_model}
use Rattle.zb_wire.specs.First.{first_told}
use Rattle.zb_wire.specs.Variables.{all_variables, variables_of}
use Rattle.zb_wire.specs.declared.given.Given.{Given}
use Rattle.zb_wire.specs.declared.kind.Kind.{Kind}
use Rattle.zb_wire.specs.declared.kind.Kind.TheVariants as kinds
use Rattle.zb_wire.specs.declared.request.LineFault.{LineFault}
use Rattle.zb_wire.specs.declared.request.LineFault.TheVariants as faults

-- a field: its name, whether a line must have it, and the kind of its value
pub record FieldRule : Type 0 where
  pub name : List ℕ
  pub needed : Bool
  pub kind : Kind

-- a field that a line must have
abbrev pub must : List ℕ → Kind → FieldRule
must name kind = record { name = name; needed = true; kind = kind }

-- a field that a line may have
abbrev pub may : List ℕ → Kind → FieldRule
may name kind = record { name = name; needed = false; kind = kind }

-- the fault of a field that is missing, of the wrong kind or unknown
abbrev pub field_fault : List ℕ → LineFault
field_fault field = faults.Field field None

-- the fault of a field whose value fails at this place
abbrev pub place_fault : List ℕ → List ℕ → LineFault
place_fault field path = faults.Field field (Some path)

-- FIELD (own): a field of this kind isn't there and must be; a model then fails as a whole
abbrev pub missing_fault : List ℕ → Kind → LineFault
missing_fault field kinds.Model = place_fault field []
missing_fault field _ = field_fault field

-- the fault of a field, unless its value is good
abbrev pub unless_good : Bool → List ℕ → Option LineFault
unless_good good field = if good then None else Some (field_fault field)

-- FIELD (own): the value isn't of this kind, a text (RFC 8259, section 7), a whole number from 0 (RFC 8259, section
-- 6), a truth value (RFC 8259, section 3), an object whose members are of the kinds that variables may have (own), or
-- a model by its layout
abbrev pub kind_fault : List ℕ → Kind → Data → Option LineFault
kind_fault field (kinds.Text most) d = unless_good (is_some (as_str d)) field
kind_fault field (kinds.Number least most) d = unless_good (is_some (unsigned_of d)) field
kind_fault field kinds.Partition d = unless_good (is_some (unsigned_of d)) field
kind_fault field kinds.Flag d = unless_good (is_some (as_bool d)) field
kind_fault field kinds.Variables d = unless_good (option_map_or all_variables (as_object d) false) field
kind_fault field kinds.Model d = option_map (place_fault field) (place_in_model d)

-- the variables that an object stands for
abbrev pub variables_in : Data → Option (List Variable)
variables_in d = option_and_then variables_of (as_object d)

-- the values of a kind that are within its limits (own); the layout of a model has its own
abbrev pub allows : Given → Kind → Data → Bool
allows given (kinds.Text most) d = is_short most d
allows given (kinds.Number least most) d = is_between least most d
allows given kinds.Partition d = is_between 1 given.partitions d
allows given kinds.Flag d = true
allows given kinds.Variables d = is_some (variables_in d)
allows given kinds.Model d = true

-- FIELD (own): a field is missing, or this value of it isn't of its kind
abbrev pub wrong_with : FieldRule → Option Data → Option LineFault
wrong_with f found = option_map_or (kind_fault f.name f.kind) found (if f.needed then Some (missing_fault f.name f.kind) else None)

-- the same of a field of this value
abbrev pub wrong_field : Data → FieldRule → Option LineFault
wrong_field d f = wrong_with f (get f.name d)

-- a field has a value within its limits, or none
abbrev pub allows_found : Given → FieldRule → Option Data → Bool
allows_found given f found = option_map_or (allows given f.kind) found true

-- the same of a field of this value
abbrev pub is_within : Given → Data → FieldRule → Bool
is_within given d f = allows_found given f (get f.name d)

-- RANGE (own): a field is outside its limits
abbrev pub outside_with : Given → FieldRule → Option Data → Option LineFault
outside_with given f found = if allows_found given f found then None else Some (faults.Range f.name)

-- the same of a field of this value
abbrev pub field_outside : Given → Data → FieldRule → Option LineFault
field_outside given d f = outside_with given f (get f.name d)

-- op, or one of the fields
abbrev pub is_known : List FieldRule → List ℕ → Bool
is_known fields name = bytes_eq name (codes "op") || list_any (λ f. bytes_eq name f.name) fields

-- the first member, in byte order of the names, that is neither op nor one of the fields
abbrev pub first_unknown : List FieldRule → Members → Option (List ℕ)
first_unknown fields no_members = None
first_unknown fields (member name d ms) = if is_known fields name then first_unknown fields ms else Some name

-- what is wrong with a value that has no such fields: the first of them, in their order, that is missing or of the
-- wrong kind; then the first other member, in byte order; then the first field outside its limits
unfoldable pub fault_in : Given → List FieldRule → Members → Data → Option LineFault
fault_in given fields members d =
    option_or (first_told (wrong_field d) fields)
    (option_or (option_map field_fault (first_unknown fields members))
    (first_told (field_outside given d) fields))

-- the number of a field, and 0 where it isn't there
abbrev pub count_at : List ℕ → Data → ℕ
count_at field d = unwrap_or (option_and_then unsigned_of (get field d)) 0

-- the number of a field as one of 32 bits, the greatest of them where it is greater, and 0 where it isn't there
abbrev pub short_count_at : List ℕ → Data → ℕ
short_count_at field d = min (count_at field d) 4294967295

-- the variables of a field, and none where it isn't there
abbrev pub variables_of_field : List ℕ → Data → List Variable
variables_of_field field d = unwrap_or (option_and_then variables_in (get field d)) []

-- the model of a field, and an empty one where it isn't there
abbrev pub model_at : List ℕ → Data → Model
model_at field d = model_of (unwrap_or (get field d) null)

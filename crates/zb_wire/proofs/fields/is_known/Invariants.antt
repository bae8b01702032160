use Rattle.std.proofs.Common.{◌≡◌, drop}
use Rattle.std.specs.List.{list_any}
use Rattle.std.specs.Prelude.{map}
use Rattle.std.specs.Str.{bytes_eq}
use Rattle.zb_wire.specs.Reading.{field_of}
use Rattle.zb_wire.proofs.fields.is_known.Given as goal

-- the fields that are left decide
abbrev pub invariant-loop-field : goal.invariant-loop-field
invariant-loop-field l = list_any (λ f. bytes_eq l.name f.name) (map field_of l.fields) ≡ list_any (λ f. bytes_eq l.name f.name) (map field_of (drop l.field-index l.fields))

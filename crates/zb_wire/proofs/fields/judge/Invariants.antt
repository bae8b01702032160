use Rattle.std.proofs.Common.{◌≡◌, drop}
use Rattle.std.specs.Option.{option_or}
use Rattle.std.specs.Prelude.{map}
use Rattle.zb_wire.specs.Fields as spec
use Rattle.zb_wire.specs.First.{first_told}
use Rattle.zb_wire.specs.Listed.{object_of}
use Rattle.zb_wire.specs.Reading.{field_of, range_of}
use Rattle.zb_wire.proofs.fields.judge.Given as goal

-- no field so far is missing or of the wrong kind, and of those outside their limits the first was kept
abbrev pub invariant-loop-field : goal.invariant-loop-field
invariant-loop-field l = record {
  wrong : first_told (spec.wrong_field (object_of l.members)) (map field_of l.fields) ≡ first_told (spec.wrong_field (object_of l.members)) (map field_of (drop l.field-index l.fields));
  outside : first_told (spec.field_outside l.given (object_of l.members)) (map field_of l.fields) ≡ option_or (range_of l.outside) (first_told (spec.field_outside l.given (object_of l.members)) (map field_of (drop l.field-index l.fields)));
}

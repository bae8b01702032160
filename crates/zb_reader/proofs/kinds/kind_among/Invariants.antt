use Rattle.std.proofs.Common.{◌≡◌, drop}
use Rattle.std.specs.Prelude.{map}
use Rattle.serde_json.specs.View.{view}
use Rattle.zb_reader.specs.Kinds as spec
use Rattle.zb_reader.proofs.kinds.kind_among.Given as goal

-- the kinds that are left decide
abbrev pub invariant-loop-row : goal.invariant-loop-row
invariant-loop-row l = spec.kind_among (map spec.kind_rule l.rows) (view l.value) ≡ spec.kind_among (map spec.kind_rule (drop l.row-index l.rows)) (view l.value)

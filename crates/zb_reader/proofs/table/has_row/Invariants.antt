use Rattle.std.proofs.Common.{◌≡◌, drop}
use Rattle.std.specs.Prelude.{map}
use Rattle.zb_reader.specs.Rows as spec
use Rattle.zb_reader.proofs.table.has_row.Given as goal

-- the fields that are left decide
abbrev pub invariant-loop-row : goal.invariant-loop-row
invariant-loop-row l = spec.has_row (map spec.row_of l.rows) l.name ≡ spec.has_row (map spec.row_of (drop l.row-index l.rows)) l.name

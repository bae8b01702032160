use Rattle.std.proofs.Common.{◌≡◌, drop}
use Rattle.zb_table.specs.Rows.{first_passing}
use Rattle.zb_table.specs.Places.{rows_in}
use Rattle.zb_table.proofs.search.first_key.Given as goal

-- the rows so far don't pass
abbrev pub invariant-loop-place : goal.invariant-loop-place
invariant-loop-place g l = first_passing (g.Q.Query.passes l.query) (rows_in (drop l.place-index l.places)) ≡ first_passing (g.Q.Query.passes l.query) (rows_in l.places)

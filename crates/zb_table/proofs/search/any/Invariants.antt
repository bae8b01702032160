use Rattle.std.proofs.Common.{◌≡◌, drop}
use Rattle.std.specs.List.{list_any}
use Rattle.zb_table.specs.Places.{rows_in}
use Rattle.zb_table.proofs.search.any.Given as goal

-- the rows so far don't pass
abbrev pub invariant-loop-place : goal.invariant-loop-place
invariant-loop-place g l = list_any (g.Q.Query.passes l.query) (rows_in (drop l.place-index l.places)) ≡ list_any (g.Q.Query.passes l.query) (rows_in l.places)

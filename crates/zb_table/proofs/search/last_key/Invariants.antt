use Rattle.std.proofs.Common.{◌≡◌, take, option_map}
use Rattle.zb_table.specs.Rows.{last_passing}
use Rattle.zb_table.specs.Places.{rows_in}
use Rattle.zb_table.proofs.search.last_key.Given as goal

-- of the rows before this place the last one that passes is that of all
abbrev pub invariant-loop-i : goal.invariant-loop-i
invariant-loop-i g l = option_map g.R.Row.key_in (last_passing (g.Q.Query.passes l.query) (rows_in (take l.i l.places))) ≡ option_map g.R.Row.key_in (last_passing (g.Q.Query.passes l.query) (rows_in l.places))

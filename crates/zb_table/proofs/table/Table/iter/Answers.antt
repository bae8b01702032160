use Rattle.std.proofs.Common.{subst}
use Rattle.zb_table.specs.Rows.{Ascend}
use Rattle.zb_table.proofs.Finding.{rows_ascend}
use Rattle.zb_table.proofs.table.Table.iter.Goals as goal

pub returns-clause-order : goal.returns-clause-order
returns-clause-order g c = subst (λ rows. Ascend g.R.Row.key_in 0 rows) c.self.view_is (rows_ascend g.R.Row.key_in 0 c.self.inside.places.items c.self.invariant.ordered)

use Rattle.std.proofs.Common.{length, ap, ◌∙◌, arith}
use Rattle.zb_table.proofs.Counting.{rows_counted}
use Rattle.zb_table.proofs.table.Table.len.Goals as goal

pub returns-clause-count : goal.returns-clause-count
returns-clause-count g c =
    let counts = rows_counted c.self.inside.places.items in
    let len = c.len.ensures in
    omega (arith, counts, len, c.self.invariant.counted) ∙ ap (λ rows. length rows) c.self.view_is

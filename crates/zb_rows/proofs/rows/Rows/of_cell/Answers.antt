use Rattle.std.proofs.Common.{List, ap, ◌∙◌}
use Rattle.std.proofs.lemmas.Result.{IfOk-weaker}
use Rattle.zb_pairs.specs.Pairs.{is_number}
use Rattle.zb_pairs.proofs.UnderLemmas.{keys_of, kept_under}
use Rattle.zb_rows.proofs.rows.Rows.of_cell.Goals as goal

pub returns-clause-keys : goal.returns-clause-keys
returns-clause-keys g c =
    let key = g.R.Row.key_in in
    let cell = g.R.Kept.cell_in in
    let keys = kept_under key cell c.args.cell c.self.inside.rows c.self.inside.cells c.self.invariant.ascend c.self.invariant.at_cells c.keys_under.ensures.order
    ∙ ap (λ (rows : List g.row.R.Denot). keys_of key (λ r. is_number c.args.cell (cell r)) rows) c.self.view_is in
    IfOk-weaker c.keys_under.result _ _ (λ keys' is. is ∙ keys) c.keys_under.ensures.keys

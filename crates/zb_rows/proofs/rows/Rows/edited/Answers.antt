use Rattle.std.proofs.Common.{◌≡◌, List, map, ◌==◌, sym, ap, subst, ◌∙◌}
use Rattle.std.specs.List.{find}
use Rattle.std.specs.Option.{option_and_then}
use Rattle.zb_table.specs.Rows.{with_edit}
use Rattle.zb_table.proofs.Ascending.{ascend_by_keys}
use Rattle.zb_rows.specs.Rows.{AreFound}
use Rattle.zb_rows.proofs.EditLemmas.{index_edited}
use Rattle.zb_rows.proofs.rows.Rows.edited.Goals as goal

pub invariant_of-self : goal.invariant_of-self
invariant_of-self g c =
    let key = g.R.Row.key_in in
    let cell = g.R.Kept.cell_in in
    let rows = c.self.inside.rows in
    let edited = with_edit key c.args.key (g.E.Edit.edits c.args.edit) rows in
    let row = c.in_ok-edit.ensures.row in
    let keys = subst (λ (now : List g.row.R.Denot). map key now ≡ map key rows) row c.in_ok-edit.ensures.keys in
    let is = c.cell_of-after.ensures ∙ ap (λ (now : List g.row.R.Denot). option_and_then cell (find (λ r. key r == c.args.key) now)) row in
    subst (λ (now : List g.row.R.Denot). AreFound key cell now c.shift.new.cells) (sym row)
    (record {
      ascend = ascend_by_keys key 0 edited rows keys c.self.invariant.ascend;
      at_cells = index_edited key cell rows c.self.inside.cells c.self.invariant.at_cells c.args.key (g.E.Edit.edits c.args.edit) c.cell_of-after.result c.shift.new.cells keys is c.in_ok-shift.ensures;
    })

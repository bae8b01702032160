use Rattle.std.proofs.Common.{◌==◌, List, refl, sym, subst, ◌∙◌}
use Rattle.zb_table.proofs.Changing.{without_absent}
use Rattle.zb_pairs.proofs.FoundLemmas.{first_is_found, ascend_kept}
use Rattle.zb_pairs.proofs.PairLemmas.{index_without}
use Rattle.zb_rows.specs.Rows.{AreFound}
use Rattle.zb_rows.proofs.rows.Rows.take.Goals as goal

pub invariant_of-self : goal.invariant_of-self
invariant_of-self g c =
    let key = g.R.Row.key_in in
    let cell = g.R.Kept.cell_in in
    let rows = c.self.inside.rows in
    subst (λ (now : List g.row.R.Denot). AreFound key cell now c.forget.new.cells) (sym c.in-Some.ensures.left)
    (record {
      ascend = ascend_kept key _ 0 rows c.self.invariant.ascend;
      at_cells = index_without key cell rows c.self.inside.cells c.self.invariant.at_cells c.args.key c.in-Some.row c.forget.new.cells
          (sym (c.in-Some.ensures.row ∙ first_is_found (λ (r : g.row.R.Denot). key r == c.args.key) rows)) (λ n k. c.forget.ensures n k ∙ rw c.cell.ensures refl);
    })

pub invariant_of-self-in-None : goal.invariant_of-self-in-None
invariant_of-self-in-None g c =
    subst (λ (now : List g.row.R.Denot). AreFound g.R.Row.key_in g.R.Kept.cell_in now c.self.inside.cells)
    (sym (c.in-None.ensures.left ∙ without_absent g.R.Row.key_in c.args.key c.self.inside.rows (sym c.in-None.ensures.row))) c.self.invariant

pub returns-in-Some-clause-row : goal.returns-in-Some-clause-row
returns-in-Some-clause-row g c = c.in-Some.ensures.row ∙ (first_is_found (λ (r : g.row.R.Denot). g.R.Row.key_in r == c.args.key) c.self.inside.rows ∙ rw c.self.view_is refl)

pub returns-in-None-clause-row : goal.returns-in-None-clause-row
returns-in-None-clause-row g c = c.in-None.ensures.row ∙ (first_is_found (λ (r : g.row.R.Denot). g.R.Row.key_in r == c.args.key) c.self.inside.rows ∙ rw c.self.view_is refl)

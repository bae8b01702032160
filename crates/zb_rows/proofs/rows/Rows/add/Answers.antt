use Rattle.std.proofs.Common.{ℕ, List, refl, sym, ap, subst, ◌∙◌, arith}
use Rattle.zb_table.specs.Rows.{without}
use Rattle.zb_pairs.proofs.FoundLemmas.{ascend_with, without_with}
use Rattle.zb_pairs.proofs.PairLemmas.{index_with}
use Rattle.zb_rows.specs.Rows.{AreFound}
use Rattle.zb_rows.proofs.rows.Rows.add.Goals as goal

pub invariant_of-self-in-Ok : goal.invariant_of-self-in-Ok
invariant_of-self-in-Ok g c =
    let key = g.R.Row.key_in in
    let cell = g.R.Kept.cell_in in
    let rows = c.self.inside.rows in
    subst (λ (now : List g.row.R.Denot). AreFound key cell now c.put.new.cells) (sym c.in_ok-add.ensures.ok)
    (record {
      ascend = ascend_with key c.args.row 0 rows (omega arith) c.self.invariant.ascend;
      at_cells = index_with key cell rows c.self.inside.cells c.self.invariant.at_cells c.args.row c.put.new.cells (rw c.self.view_is c.requires)
          (λ n k. c.in-Ok.ensures.ok n k ∙ rw (c.cell-cell.ensures, c.key-key.ensures) refl);
    })

pub invariant_of-self-in-Err : goal.invariant_of-self-in-Err
invariant_of-self-in-Err g c =
    let key = g.R.Row.key_in in
    let rows = c.self.inside.rows in
    let again = c.remove.ensures ∙ (ap (λ (k : ℕ). without key k c.add.new.self) c.key-key.ensures
    ∙ (ap (without key (key c.args.row)) c.in_ok-add.ensures.ok ∙ without_with key c.args.row rows (rw c.self.view_is c.requires))) in
    subst (λ (now : List g.row.R.Denot). AreFound key g.R.Kept.cell_in now c.put.new.cells) (sym again)
    (record {
      ascend = c.self.invariant.ascend;
      at_cells = λ n k. c.in-Err.ensures.err n k ∙ c.self.invariant.at_cells n k;
    })

pub returns-in-Err-clause-err : goal.returns-in-Err-clause-err
returns-in-Err-clause-err g c =
    let key = g.R.Row.key_in in
    c.remove.ensures ∙ (ap (λ (k : ℕ). without key k c.add.new.self) c.key-key.ensures
    ∙ (ap (without key (key c.args.row)) c.in_ok-add.ensures.ok ∙ (without_with key c.args.row c.self.inside.rows (rw c.self.view_is c.requires) ∙ c.self.view_is)))

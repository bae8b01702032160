use Rattle.std.proofs.Common.{◌==◌, ◌++◌, List, sym, ap, ◌∙◌}
use Rattle.std.proofs.lemmas.Result.{on_ok_weaker}
use Rattle.zb_table.specs.Rows.{row_at, with_edit}
use Rattle.zb_table.specs.Edits.{edited}
use Rattle.zb_arrivals.proofs.OrderedLemmas.{first_is_found, edited_row, none_with}
use Rattle.zb_arrivals.proofs.SplitLemmas.{or_kept, edited_front, edited_back}
use Rattle.zb_arrivals.proofs.KeptLemmas.{in_order_edited}
use Rattle.zb_arrivals.proofs.arrivals.Arrivals.edit.Goals as goal

pub invariant_of-self : goal.invariant_of-self
invariant_of-self g c =
    in_order_edited g.R.Row.key_in c.self.inside.next c.self.inside.ordered c.self.invariant c.args.key c.edit.result c.edit.new.self c.edit.ensures.keys c.edit.ensures.err

pub returns-then-contains : goal.returns-then-contains
returns-then-contains g c =
    let key = g.R.Row.key_in in
    let p = λ (r : g.row.R.Denot). key r == c.args.key in
    let f = g.E.Edit.edits c.args.edit in
    let rows = c.self.inside.ordered in
    let others = c.self.inside.others.items in
    let made = edited_row key f c.args.key 0 rows c.self.invariant.ascend (sym c.if-contains.true ∙ c.contains.ensures) in
    on_ok_weaker c.edit.result (λ is. ap (λ (l : List g.row.R.Denot). l ++ others) is
    ∙ (sym (edited_front p f rows others (with_edit key c.args.key f rows) made) ∙ ap (λ (l : List g.row.R.Denot). or_kept (edited p f l) l) c.self.view_is)) c.edit.ensures.row

pub returns : goal.returns
returns g c =
    let key = g.R.Row.key_in in
    let p = λ (r : g.row.R.Denot). key r == c.args.key in
    let f = g.E.Edit.edits c.args.edit in
    let rows = c.self.inside.ordered in
    let none = sym (first_is_found p rows) ∙ none_with (row_at key c.args.key rows) (sym c.if-contains.false ∙ c.contains.ensures) in
    on_ok_weaker c.edit-2.result (λ is. ap (λ (l : List g.row.R.Denot). rows ++ l) is
    ∙ (sym (edited_back p f rows c.self.inside.others.items none) ∙ ap (λ (l : List g.row.R.Denot). or_kept (edited p f l) l) c.self.view_is)) c.edit-2.ensures

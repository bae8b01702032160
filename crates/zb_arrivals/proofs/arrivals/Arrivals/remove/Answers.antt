use Rattle.std.proofs.Common.{◌==◌, ◌++◌, List, sym, ap, ◌∙◌}
use Rattle.zb_table.proofs.Changing.{without_absent}
use Rattle.zb_table.specs.Edits.{without_first}
use Rattle.zb_arrivals.proofs.OrderedLemmas.{first_is_found, removed_row}
use Rattle.zb_arrivals.proofs.SplitLemmas.{removed_front, removed_back}
use Rattle.zb_arrivals.proofs.KeptLemmas.{in_order_without}
use Rattle.zb_arrivals.proofs.arrivals.Arrivals.remove.Goals as goal

pub invariant_of-self : goal.invariant_of-self
invariant_of-self g c =
    rw c.take.ensures.left (in_order_without g.R.Row.key_in c.self.inside.next c.self.inside.ordered c.self.invariant c.args.key)

pub returns-in-Some : goal.returns-in-Some
returns-in-Some g c =
    let p = λ (r : g.row.R.Denot). g.R.Row.key_in r == c.args.key in
    let rows = c.self.inside.ordered in
    let others = c.self.inside.others.items in
    let gone = removed_row g.R.Row.key_in c.args.key 0 rows c.in-Some._row c.self.invariant.ascend (sym c.in-Some.ensures.row) in
    ap (λ (l : List g.row.R.Denot). l ++ others) c.take.ensures.left ∙ (sym (removed_front p rows others _ gone) ∙ ap (without_first p) c.self.view_is)

pub invariant_of-self-in-None : goal.invariant_of-self-in-None
invariant_of-self-in-None g c =
    rw c.take.ensures.left (in_order_without g.R.Row.key_in c.self.inside.next c.self.inside.ordered c.self.invariant c.args.key)

pub returns-in-None : goal.returns-in-None
returns-in-None g c =
    let p = λ (r : g.row.R.Denot). g.R.Row.key_in r == c.args.key in
    let rows = c.self.inside.ordered in
    let others = c.self.inside.others.items in
    let none = sym (first_is_found p rows) ∙ sym c.in-None.ensures.row in
    let same = c.take.ensures.left ∙ without_absent g.R.Row.key_in c.args.key rows (sym c.in-None.ensures.row) in
    ap (λ (l : List g.row.R.Denot). l ++ c.remove_first.new.rows.items) same
    ∙ (ap (λ (l : List g.row.R.Denot). rows ++ l) c.remove_first.ensures
    ∙ (sym (removed_back p rows others none) ∙ ap (without_first p) c.self.view_is))

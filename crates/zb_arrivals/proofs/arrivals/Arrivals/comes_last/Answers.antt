use Rattle.std.proofs.Common.{List, sym, ap, subst, ◌∙◌}
use Rattle.zb_table.specs.Rows.{Ascend, are_below}
use Rattle.zb_table.proofs.Growing.{below_higher}
use Rattle.zb_arrivals.proofs.SplitLemmas.{none_behind}
use Rattle.zb_arrivals.proofs.arrivals.Arrivals.comes_last.Goals as goal

pub returns-clause-below : goal.returns-clause-below
returns-clause-below g c = λ last.
    let key = g.R.Row.key_in in
    let none = sym c.deref.ensures.value ∙ c.is_behind.ensures.none last in
    ap (are_below key c.args.key) (sym c.self.view_is ∙ none_behind c.self.inside.ordered c.self.inside.others.items none)
    ∙ below_higher key c.self.inside.next c.args.key c.self.inside.ordered (c.is_behind.ensures.behind last) c.self.invariant.below

pub returns-clause-order : goal.returns-clause-order
returns-clause-order g c = λ last.
    let key = g.R.Row.key_in in
    let none = sym c.deref.ensures.value ∙ c.is_behind.ensures.none last in
    subst (λ (rows : List g.row.R.Denot). Ascend key 0 rows) (sym (sym c.self.view_is ∙ none_behind c.self.inside.ordered c.self.inside.others.items none)) c.self.invariant.ascend

use Rattle.std.proofs.Common.{sym, ap, ◌∙◌}
use Rattle.std.specs.List.{find}
use Rattle.zb_arrivals.proofs.OrderedLemmas.{first_is_found, first_with_key, none_first}
use Rattle.zb_arrivals.proofs.SplitLemmas.{found_front, found_back}
use Rattle.zb_arrivals.proofs.arrivals.Arrivals.first.Goals as goal

pub returns-in-Some : goal.returns-in-Some
returns-in-Some g c =
    let p = g.Q.Query.passes c.args.query.now in
    let r = first_with_key g.R.Row.key_in p c.self.inside.ordered c.in-Some.key c.self.invariant.ascend c.in-Some.ensures.key in
    c.get.ensures.row ∙ (r.2 ∙ (sym (found_front p c.self.inside.ordered c.self.inside.others.items r.0 (sym (first_is_found p c.self.inside.ordered) ∙ r.1)) ∙ ap (find p) c.self.view_is))

pub returns-in-None : goal.returns-in-None
returns-in-None g c =
    let p = g.Q.Query.passes c.args.query.now in
    let none = none_first g.R.Row.key_in p c.self.inside.ordered c.in-None.ensures.key in
    c.first.ensures ∙ (ap (find p) c.deref.ensures.value ∙ sym (found_back p c.self.inside.ordered c.self.inside.others.items none) ∙ ap (find p) c.self.view_is)

use Rattle.std.proofs.Common.{◌==◌, sym, ap, ◌∙◌}
use Rattle.std.specs.List.{find}
use Rattle.zb_arrivals.proofs.OrderedLemmas.{first_is_found}
use Rattle.zb_arrivals.proofs.SplitLemmas.{found_front, found_back}
use Rattle.zb_arrivals.proofs.arrivals.Arrivals.get.Goals as goal

pub returns-in-Some : goal.returns-in-Some
returns-in-Some g c =
    let p = λ (r : g.row.R.Denot). g.R.Row.key_in r == c.args.key in
    let here = sym (first_is_found p c.self.inside.ordered) ∙ sym c.in-Some.ensures.row in
    sym (found_front p c.self.inside.ordered c.self.inside.others.items c.in-Some.row.now here) ∙ ap (find p) c.self.view_is

pub returns-in-None : goal.returns-in-None
returns-in-None g c =
    let p = λ (r : g.row.R.Denot). g.R.Row.key_in r == c.args.key in
    let none = sym (first_is_found p c.self.inside.ordered) ∙ sym c.in-None.ensures.row in
    c.first.ensures ∙ (ap (find p) c.deref.ensures.value ∙ sym (found_back p c.self.inside.ordered c.self.inside.others.items none) ∙ ap (find p) c.self.view_is)

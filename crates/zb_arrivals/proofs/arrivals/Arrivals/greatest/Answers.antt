use Rattle.std.proofs.Common.{ℕ, Option, sym, ap, ◌∙◌}
use Rattle.zb_arrivals.specs.Newer.{newer_of}
use Rattle.zb_arrivals.proofs.GreatestLemmas.{best_of, best_both, last_greatest}
use Rattle.zb_arrivals.proofs.arrivals.Arrivals.greatest.Goals as goal

pub returns : goal.returns
returns g c =
    let key = g.R.Row.key_in in
    let p = g.Q.Query.passes c.args.query.now in
    let front = c.last_key.ensures.key ∙ last_greatest key p 0 c.self.inside.ordered c.self.invariant.ascend in
    let back = c.greatest.ensures ∙ ap (best_of key p) c.deref.ensures.value in
    c.newer_of.ensures ∙ (ap (λ (o : Option ℕ). newer_of o c.greatest.result) front ∙ (ap (newer_of (best_of key p c.self.inside.ordered)) back
    ∙ (sym (best_both key p c.self.inside.ordered c.self.inside.others.items) ∙ ap (best_of key p) c.self.view_is)))

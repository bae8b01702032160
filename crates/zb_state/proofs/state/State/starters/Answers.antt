use Rattle.std.proofs.Common.{sym, subst, ◌∙◌}
use Rattle.zb_rules.proofs.StarterLaws.{starters_on}
use Rattle.zb_state.specs.declared.facts.Facts.{Facts}
use Rattle.zb_state.specs.State.{IsStateOf}
use Rattle.zb_state.proofs.state.State.starters.Goals as goal

pub returns : goal.returns
returns c = λ es its.
    let is = subst (λ (f : Facts). IsStateOf es f) (sym c.self.view_is) its in
    let s = c.self.inside.facts in
    c.under.ensures ∙ (c.starters.ensures c.args.name.now ∙ starters_on s.place es s.game c.args.name.now is.game is.applied)

use Rattle.std.proofs.Common.{subst, sym}
use Rattle.zb_views.specs.declared.left.Left.{Left}
use Rattle.zb_state.specs.Starts.{BeginsRoot, IsChangeOf}
use Rattle.zb_state.proofs.StartLemmas.{begins_root, change_told}
use Rattle.zb_state.proofs.facts.Facts.admit.Goals as goal

pub returns-in-Ok-clause-begins : goal.returns-in-Ok-clause-begins
returns-in-Ok-clause-begins c =
    subst (λ (what : Left). BeginsRoot what c.in_ok-change.change) (sym c.play.ensures.beside.left) (subst (BeginsRoot c.args.self.now.left) (sym c.in_ok-change.ensures) (begins_root c.args.self.now c.args.event.now))

pub returns-in-Ok-clause-changes : goal.returns-in-Ok-clause-changes
returns-in-Ok-clause-changes c = λ es is.
    subst (IsChangeOf es c.args.event.now) (sym c.in_ok-change.ensures) (change_told es c.args.self.now is c.args.event.now (c.in-Ok.ensures.applied es is))

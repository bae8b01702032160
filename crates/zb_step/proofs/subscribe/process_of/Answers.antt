use Rattle.std.proofs.Common.{List, ℕ, Some, sym, ap, ◌∙◌}
use Rattle.zb_state.proofs.SubscriptionLemmas.{opened_process}
use Rattle.zb_step.proofs.subscribe.process_of.Goals as goal

pub returns-in_ok-copy-in-Some : goal.returns-in_ok-copy-in-Some
returns-in_ok-copy-in-Some c = λ es is.
    opened_process es c.args.state.now is c.args.key c.in-Some.subscription.now (sym (c.in-Some.ensures es is)) ∙ ap (λ (p : List ℕ). Some p) (sym c.in_ok-copy-in-Some.ensures)

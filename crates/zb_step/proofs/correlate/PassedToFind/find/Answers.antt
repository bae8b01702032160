use Rattle.std.proofs.Common.{◌==◌, ℕ, List, sym, ap, ◌∙◌}
use Rattle.std.specs.List.{find}
use Rattle.std.proofs.lemmas.Result.{IfOk-weaker}
use Rattle.zb_exchange_records.specs.declared.message.MessagePublished.{MessagePublished}
use Rattle.zb_rules.specs.Correlate.{next_subscription}
use Rattle.zb_step.proofs.SubscribeLemmas.{passed_is}
use Rattle.zb_step.proofs.correlate.PassedToFind.find.Goals as goal

pub returns-in-Some-next_subscription : goal.returns-in-Some-next_subscription
returns-in-Some-next_subscription c = λ es is.
    let message = c.in-Some.message.now in
    let waits = c.in-Some.ensures.message ∙ ap (find (λ (m : MessagePublished). m.key == c.args.self.message)) (sym (c.messages.ensures es is)) in
    let next = c.in-Some-next_subscription.ensures es is ∙ ap (λ (process : List ℕ). next_subscription message process es) c.as_str.ensures in
    IfOk-weaker c.correlating.result _ _ (λ event told. passed_is es c.args.self.message c.args.self.process message c.in-Some-next_subscription.subscription.now event waits next told) c.correlating.ensures

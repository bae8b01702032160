use Rattle.std.proofs.Common.{◌≡◌, map, List, refl, ap, ◌∙◌}
use Rattle.std.proofs.lemmas.Result.{on_ok_weaker}
use Rattle.zb_views.specs.declared.process_subscription.ProcessSubscription.{ProcessSubscription}
use Rattle.zb_views.specs.ProcessSubscriptions.{process_subscription_changed}
use Rattle.zb_pairs.proofs.FoundLemmas.{edited_all}
use Rattle.zb_subscriptions.proofs.process_subscriptions.ProcessSubscriptions.change.Goals as goal

pub returns : goal.returns
returns c =
    let f = process_subscription_changed c.args.event.now in
    let rows = c.self.inside.rows in
    on_ok_weaker c.edit.result (λ is. is ∙ (edited_all (λ (s : ProcessSubscription). s.key) f c.args.key (λ s. refl) c.requires rows ∙ ap (map f) c.self.view_is)) c.edit.ensures

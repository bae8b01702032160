use Rattle.std.proofs.Common.{◌≡◌, ◌++◌, ◌∷◌, [], List, refl, ap, ◌∙◌}
use Rattle.std.proofs.lemmas.Result.{on_ok_weaker}
use Rattle.zb_table.specs.Rows.{with_row}
use Rattle.zb_table.proofs.Growing.{with_last}
use Rattle.zb_views.specs.declared.process_subscription.ProcessSubscription.{ProcessSubscription}
use Rattle.zb_views.specs.ProcessSubscriptions.{process_subscription_of}
use Rattle.zb_pairs.proofs.FoundLemmas.{none_below}
use Rattle.zb_subscriptions.proofs.process_subscriptions.ProcessSubscriptions.open.Goals as goal

pub add-requires : goal.add-requires
add-requires c =
    rw c.in_ok-subscription.ensures (none_below (λ (s : ProcessSubscription). s.key) c.args.told.now.subscription c.self.inside.rows (rw c.self.view_is c.requires))

pub returns : goal.returns
returns c =
    let new = process_subscription_of c.args.told.now in
    let rows = c.self.inside.rows in
    let told : with_row (λ (s : ProcessSubscription). s.key) c.in_ok-subscription.subscription rows ≡ with_row (λ (s : ProcessSubscription). s.key) new rows = rw c.in_ok-subscription.ensures refl in
    on_ok_weaker c.add.result (λ is. is ∙ (told ∙ (with_last (λ (s : ProcessSubscription). s.key) new rows (rw c.self.view_is c.requires) ∙ ap (λ (ss : List ProcessSubscription). ss ++ new ∷ []) c.self.view_is))) c.add.ensures.ok

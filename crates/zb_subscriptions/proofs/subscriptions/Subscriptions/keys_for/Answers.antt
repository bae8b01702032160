use Rattle.std.proofs.Common.{◌≡◌, ℕ, List, map, filter, None, IfOk, ap, subst, ◌∙◌}
use Rattle.std.specs.List.{flat_map}
use Rattle.zb_lists.proofs.ListedLemmas.{keys_listed}
use Rattle.zb_views.specs.declared.subscription.Subscription.{Subscription}
use Rattle.zb_subscriptions.specs.declared.opened.Opened.{Opened}
use Rattle.zb_views.specs.Subscriptions.{wants_messages}
use Rattle.zb_subscriptions.specs.Opened.{label_of_opened, key_at}
use Rattle.zb_subscriptions.proofs.OpenedLemmas.{place_in}
use Rattle.zb_subscriptions.proofs.ListingLemmas.{keys_there}
use Rattle.zb_subscriptions.proofs.subscriptions.Subscriptions.keys_for.Goals as goal

pub returns : goal.returns
returns c =
    let name = c.args.name.now in
    let correlation_key = c.args.correlation_key.now in
    let os = c.self.inside.rows in
    let places = keys_listed place_in (λ (o : Opened). None) label_of_opened os c.self.inside.lists name correlation_key c.labelled.result.now
    c.self.invariant.ascend c.self.invariant.listed c.labelled.ensures.keys c.labelled.ensures.order in
    let keys : flat_map (key_at os) c.labelled.result.now ≡ map (λ (s : Subscription). s.key) (filter (wants_messages name correlation_key) c.args.self.now) =
    ap (flat_map (key_at os)) places ∙ (keys_there name correlation_key os c.self.invariant.ascend ∙ ap (λ (ss : List Subscription). map (λ (s : Subscription). s.key) (filter (wants_messages name correlation_key) ss)) c.self.view_is) in
    subst (λ (ks : List ℕ). IfOk c.keys_at.result (λ found. found.items ≡ ks)) keys c.keys_at.ensures

use Rattle.std.proofs.Common.{◌≡◌, ℕ, map, filter, ◌&&◌, None, Some, Option, ap, ◌∙◌}
use Rattle.std.specs.List.{find}
use Rattle.std.specs.Option.{option_and_then, option_map}
use Rattle.zb_lists.specs.Listed.{is_label}
use Rattle.zb_lists.proofs.ListedLemmas.{keys_listed}
use Rattle.zb_views.specs.declared.subscription.Subscription.{Subscription}
use Rattle.zb_subscriptions.specs.declared.opened.Opened.{Opened}
use Rattle.zb_views.specs.Subscriptions.{wants_messages}
use Rattle.zb_subscriptions.specs.Opened.{label_of_opened, kept_at, passes_place}
use Rattle.zb_subscriptions.proofs.OpenedLemmas.{place_in, its}
use Rattle.zb_subscriptions.proofs.ListingLemmas.{first_there}
use Rattle.zb_subscriptions.proofs.subscriptions.Subscriptions.first_for.Goals as goal

pub returns-in-Some : goal.returns-in-Some
returns-in-Some g c =
    let passes = g.Q.Query.passes c.args.query.now in
    let name = c.args.name.now in
    let correlation_key = c.args.correlation_key.now in
    let os = c.self.inside.rows in
    let places = keys_listed place_in (λ (o : Opened). None) label_of_opened os c.self.inside.lists name correlation_key c.labelled.result.now
    c.self.invariant.ascend c.self.invariant.listed c.labelled.ensures.keys c.labelled.ensures.order in
    let found : Some c.in-Some.place ≡ find (passes_place passes os) (map place_in (filter (λ o. is_label name correlation_key (label_of_opened o)) os)) = c.in-Some.ensures ∙ ap (find (passes_place passes os)) places in
    c.at.ensures
    ∙ (ap (λ (o : Option ℕ). option_map its (option_and_then (kept_at os) o)) found
    ∙ (first_there name correlation_key os passes c.self.invariant.ascend ∙ ap (find (λ (s : Subscription). wants_messages name correlation_key s && passes s)) c.self.view_is))

pub returns-in-None : goal.returns-in-None
returns-in-None g c =
    let passes = g.Q.Query.passes c.args.query.now in
    let name = c.args.name.now in
    let correlation_key = c.args.correlation_key.now in
    let os = c.self.inside.rows in
    let places = keys_listed place_in (λ (o : Opened). None) label_of_opened os c.self.inside.lists name correlation_key c.labelled.result.now
    c.self.invariant.ascend c.self.invariant.listed c.labelled.ensures.keys c.labelled.ensures.order in
    let found : None ≡ find (passes_place passes os) (map place_in (filter (λ o. is_label name correlation_key (label_of_opened o)) os)) = c.in-None.ensures ∙ ap (find (passes_place passes os)) places in
    ap (λ (o : Option ℕ). option_map its (option_and_then (kept_at os) o)) found
    ∙ (first_there name correlation_key os passes c.self.invariant.ascend ∙ ap (find (λ (s : Subscription). wants_messages name correlation_key s && passes s)) c.self.view_is)

use Rattle.std.proofs.Common.{◌≡◌, ◌∙◌, ℕ, List, ap, sym}
use Rattle.std.proofs.lemmas.Result.{on_ok_weaker}
use Rattle.zb_model.specs.declared.record.Event.{Event}
use Rattle.zb_views.specs.declared.process_subscription.ProcessSubscription.{ProcessSubscription}
use Rattle.zb_subscriptions.specs.Waiting.{waiting_keys_on}
use Rattle.zb_rules.specs.Behind.{closed_one, subscriptions_closed_on}
use Rattle.zb_rules.specs.Making.{each_made}
use Rattle.zb_state.specs.State.{IsStateOf}
use Rattle.zb_follow.proofs.MakerLemmas.{same_cant, same_put}
use Rattle.zb_follow.proofs.catches.ClosedSubscriptionsMaker.put.Goals as goal

-- they are those of the cell
are_closed : (c : goal.After-drop-keys-inside) → (es : List Event) → IsStateOf es c.args.state.now → each_made closed_one c.as_slice-things.result.now es ≡ subscriptions_closed_on c.args.self.0 es
are_closed c es is =
    let are = c.in_ok-keys.ensures.keys ∙ ap (λ (ss : List ProcessSubscription). waiting_keys_on c.args.self.0 ss) (sym (c.process_subscriptions.ensures es is)) in
    ap (λ (keys : List ℕ). each_made closed_one keys es) (c.as_slice-things.ensures ∙ are)

pub returns-clause-ok : goal.returns-clause-ok
returns-clause-ok c =
    on_ok_weaker c.put.result
    (same_put (each_made closed_one c.as_slice-things.result.now) (subscriptions_closed_on c.args.self.0) c.args.state.now c.put.new.state c.args.out.now c.put.new.out (are_closed c))
    c.put.ensures.ok

pub returns-clause-misfit : goal.returns-clause-misfit
returns-clause-misfit c = λ misfit.
    same_cant (each_made closed_one c.as_slice-things.result.now) (subscriptions_closed_on c.args.self.0) c.args.state.now (are_closed c) (c.put.ensures.misfit misfit)

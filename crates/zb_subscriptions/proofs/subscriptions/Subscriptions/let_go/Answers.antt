use Rattle.std.proofs.Common.{◌≡◌, ◌==◌, map, false, Some, refl, sym, ap, ◌∙◌}
use Rattle.std.specs.List.{find}
use Rattle.std.proofs.lemmas.Result.{on_ok_weaker}
use Rattle.zb_views.specs.declared.subscription.Subscription.{Subscription}
use Rattle.zb_subscriptions.proofs.TakenLemmas.{told, ends_with, stays_with}
use Rattle.zb_subscriptions.proofs.subscriptions.Subscriptions.let_go.Goals as goal
use Rattle.zb_subscriptions.proofs.subscriptions.Subscriptions.let_go.Goals.{in_default-via-in-Some+else-subscription, in_default-via-in_default}

pub returns-in-Some : goal.returns-in-Some
returns-in-Some c = c.end.ensures ∙ ends_with c.args.key c.args.self.now c.in-Some.subscription.now c.get.ensures.own (sym c.in-Some.ensures.found) c.if-subscription.true

pub returns-in_default : goal.returns-in_default
returns-in_default c =
    let ss = c.args.self.now in
    let key = c.args.key in
    let found = find (λ (s : Subscription). s.key == key) ss in
    let cancels : (r : Subscription) → found ≡ Some r → r.cancel ≡ false = elim c.in_default.branch [
      | in_default-via-in-Some+else-subscription w ↦ λ r is. let same : w.in-Some.subscription.now ≡ r = (let both = w.in-Some.ensures.found ∙ is in cc) in ap (λ (s : Subscription). s.cancel) (sym same) ∙ w.if-subscription.false
      | in_default-via-in_default w ↦ λ r is. let none = w.in_default.ensures.found in absurd (cc (none, is))
    ] in
    on_ok_weaker c.correlate.result (λ is. is ∙ ap (map (told key)) (sym (stays_with key ss found refl cancels c.get.ensures.own))) c.correlate.ensures

use Rattle.std.proofs.Common.{◌==◌, not, is_some, is_none, Option, Some, None, IsTrue, refl, ◌∙◌}
use Rattle.std.specs.List.{find}
use Rattle.zb_views.specs.declared.subscription.Subscription.{Subscription}
use Rattle.zb_state.proofs.facts.Facts.meets_own.Goals as goal

pub returns-in-MessageExpired-clause-own : goal.returns-in-MessageExpired-clause-own
returns-in-MessageExpired-clause-own c = λ es is. rw (c.in-MessageExpired.is, is.messages) (c.is_some.ensures ∙ c.deadline_of.ensures.buffered)

-- where none is found
none_found : {A : Type 0} (found : Option A) → IsTrue (not (is_some found)) → IsTrue (is_none found)
none_found None none = refl
none_found (Some x) none = absurd (cc)

pub returns-in-MessageSubscriptionCreated-clause-opens : goal.returns-in-MessageSubscriptionCreated-clause-opens
returns-in-MessageSubscriptionCreated-clause-opens c = λ new.
    let ss = c.args.self.now.tables.subscriptions in
    rw c.in-MessageSubscriptionCreated.is (none_found (find (λ (s : Subscription). s.key == c.in-MessageSubscriptionCreated.opened.subscription) ss) (rw c.is_subscribed.ensures.found at new))

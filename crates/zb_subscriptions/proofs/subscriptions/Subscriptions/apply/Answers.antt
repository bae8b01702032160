use Rattle.std.proofs.Common.{ℕ, ◌≡◌, ◌==◌, ◌++◌, ◌∷◌, [], List, refl, sym, ap, ◌∙◌}
use Rattle.std.proofs.lemmas.Result.{on_ok_weaker}
use Rattle.zb_exchange_records.specs.declared.subscription.MessageCorrelation.{MessageCorrelation}
use Rattle.zb_exchange_records.specs.declared.subscription.MessageSubscription.{MessageSubscription}
use Rattle.zb_exchange_records.specs.declared.subscription.SubscribedMessage.{SubscribedMessage}
use Rattle.zb_model.specs.declared.record.Event.{Event}
use Rattle.zb_model.specs.declared.record.Event.TheVariants as events
use Rattle.zb_views.specs.declared.subscription.Subscription.{Subscription}
use Rattle.zb_views.specs.Standing.{standing_by}
use Rattle.zb_views.specs.Subscriptions.{subscription_of, subscription_sort}
use Rattle.zb_views.proofs.StandingLaws.{IsSilent, all_left, one_more, some_gone, each_changed}
use Rattle.zb_subscriptions.proofs.subscriptions.Subscriptions.apply.Goals as goal

pub returns-in_ok-subscription-in-MessageSubscriptionCreated : goal.returns-in_ok-subscription-in-MessageSubscriptionCreated
returns-in_ok-subscription-in-MessageSubscriptionCreated c = λ before.
    let ss = c.args.self.now in
    let opened = c.in-MessageSubscriptionCreated.opened in
    on_ok_weaker c.open.result
    (λ is. is ∙ (ap (λ (s : Subscription). ss ++ s ∷ []) c.in_ok-subscription-in-MessageSubscriptionCreated.ensures
    ∙ sym (ap (λ x. standing_by subscription_sort before x ss) c.in-MessageSubscriptionCreated.is ∙ one_more subscription_sort before (events.MessageSubscriptionCreated opened) ss (subscription_of opened) refl (λ s. refl) (λ s. refl))))
    c.open.ensures

pub returns-in-MessageSubscriptionCorrelating : goal.returns-in-MessageSubscriptionCorrelating
returns-in-MessageSubscriptionCorrelating c = λ before.
    on_ok_weaker c.correlate.result
    (λ is. is ∙ sym (ap (λ x. standing_by subscription_sort before x c.args.self.now) c.in-MessageSubscriptionCorrelating.is
    ∙ each_changed subscription_sort before (events.MessageSubscriptionCorrelating c.in-MessageSubscriptionCorrelating.told) c.args.self.now refl (λ s. refl)))
    c.correlate.ensures

pub returns-in-MessageSubscriptionRejected : goal.returns-in-MessageSubscriptionRejected
returns-in-MessageSubscriptionRejected c = λ before.
    let told = c.in-MessageSubscriptionRejected.told in
    c.end.ensures ∙ sym (ap (λ x. standing_by subscription_sort before x c.args.self.now) c.in-MessageSubscriptionRejected.is
    ∙ some_gone subscription_sort before (events.MessageSubscriptionRejected told) c.args.self.now (λ s. s.key == told.subscription) refl (λ s. refl) (λ s. refl))

pub returns-in-MessageSubscriptionDeleted : goal.returns-in-MessageSubscriptionDeleted
returns-in-MessageSubscriptionDeleted c = λ before.
    let key = c.in-MessageSubscriptionDeleted.key in
    c.end-in-MessageSubscriptionDeleted.ensures ∙ sym (ap (λ x. standing_by subscription_sort before x c.args.self.now) c.in-MessageSubscriptionDeleted.is
    ∙ some_gone subscription_sort before (events.MessageSubscriptionDeleted key) c.args.self.now (λ s. s.key == key) refl (λ s. refl) (λ s. refl))

-- any other event says nothing of subscriptions
silent_of : (before : List Event) (e : Event) → ((s : MessageSubscription) → e ≡ events.MessageSubscriptionCreated s → ⊥) → ((c : MessageCorrelation) → e ≡ events.MessageSubscriptionCorrelating c → ⊥)
    → ((c : SubscribedMessage) → e ≡ events.MessageSubscriptionCorrelated c → ⊥) → ((c : SubscribedMessage) → e ≡ events.MessageSubscriptionRejected c → ⊥) → ((key : ℕ) → e ≡ events.MessageSubscriptionDeleted key → ⊥)
    → IsSilent subscription_sort before e
silent_of before (events.MessageSubscriptionCreated s) created begun taken rejected deleted = absurd (created s refl)
silent_of before (events.MessageSubscriptionCorrelating c) created begun taken rejected deleted = absurd (begun c refl)
silent_of before (events.MessageSubscriptionCorrelated c) created begun taken rejected deleted = absurd (taken c refl)
silent_of before (events.MessageSubscriptionRejected c) created begun taken rejected deleted = absurd (rejected c refl)
silent_of before (events.MessageSubscriptionDeleted key) created begun taken rejected deleted = absurd (deleted key refl)
silent_of before e created begun taken rejected deleted = (refl, λ s. refl, λ s. refl)

pub returns-in_default : goal.returns-in_default
returns-in_default c = λ before.
    let e = c.args.event.now in
    let other = c.in_default in
    sym (all_left subscription_sort before e c.args.self.now
    (silent_of before e other.not-MessageSubscriptionCreated other.not-MessageSubscriptionCorrelating other.not-MessageSubscriptionCorrelated other.not-MessageSubscriptionRejected other.not-MessageSubscriptionDeleted))

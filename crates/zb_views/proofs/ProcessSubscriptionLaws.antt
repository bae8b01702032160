-- Laws of the subscriptions of element instances as a log grows by an event.
use Rattle.std.proofs.Common.{◌≡◌, List, ◌∷◌, ◌++◌, [], true, refl}
use Rattle.zb_model.specs.declared.record.Event.{Event}
use Rattle.zb_model.specs.declared.record.Event.TheVariants as events
use Rattle.zb_views.specs.ProcessSubscriptions.{process_subscription_sort, process_subscriptions, says_nothing_of_process_subscriptions}
use Rattle.zb_views.specs.Standing.{standing_by}
use Rattle.zb_views.proofs.StandingLaws.{IsSilent, standing_more, standing_kept}

-- what one event more makes of the subscriptions
pub process_subscriptions_more : (es : List Event) (e : Event) → process_subscriptions (es ++ e ∷ []) ≡ standing_by process_subscription_sort es e (process_subscriptions es)
process_subscriptions_more es e = standing_more process_subscription_sort es e

-- an event that says nothing of them
pub silent_of_process_subscriptions : (before : List Event) (e : Event) → says_nothing_of_process_subscriptions e ≡ true → IsSilent process_subscription_sort before e
silent_of_process_subscriptions before (events.ProcessMessageSubscriptionCreating x) is = absurd (cc)
silent_of_process_subscriptions before (events.ProcessMessageSubscriptionCreated key) is = absurd (cc)
silent_of_process_subscriptions before (events.ProcessMessageSubscriptionCorrelated x) is = absurd (cc)
silent_of_process_subscriptions before (events.ProcessMessageSubscriptionDeleted key) is = absurd (cc)
silent_of_process_subscriptions before (events.ProcessMessageSubscriptionDeleting x) is = absurd (cc)
silent_of_process_subscriptions before e is = (refl, λ s. refl, λ s. refl)

-- leaves them
pub process_subscriptions_kept : (es : List Event) (e : Event) → says_nothing_of_process_subscriptions e ≡ true → process_subscriptions (es ++ e ∷ []) ≡ process_subscriptions es
process_subscriptions_kept es e is = standing_kept process_subscription_sort es e (silent_of_process_subscriptions es e is)

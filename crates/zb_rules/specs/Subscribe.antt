-- What partitions ask of the home of messages: to open a subscription, that a message was taken or turned away, to delete it (Zeebe, the records).
use Rattle.std.specs.Prelude.{ℕ, ◌==◌, List, [], ◌∷◌, ◌++◌, codes, if◌then◌else◌, Option, Some, None, option_and_then}
use Rattle.std.specs.Option.{option_map_or}
use Rattle.std.specs.List.{list_any}
use Rattle.std.specs.Fmt.{decimal}
use Rattle.zb_exchange_records.specs.declared.subscription.MessageSubscription.{MessageSubscription}
use Rattle.zb_exchange_records.specs.declared.subscription.MessageSubscriptionDelete.{MessageSubscriptionDelete}
use Rattle.zb_exchange_records.specs.declared.subscription.SubscribedMessage.{SubscribedMessage}
use Rattle.zb_model.specs.declared.record.Event.{Event}
use Rattle.zb_model.specs.declared.record.Event.TheVariants as events
use Rattle.zb_model.specs.declared.record.Rejection.{Rejection}
use Rattle.zb_model.specs.declared.record.RejectionKind.TheVariants as kinds
use Rattle.zb_views.specs.Subscriptions.{is_subscribed, subscription_at}
use Rattle.zb_record.specs.Answers.{no_subscription}
use Rattle.zb_rules.specs.Correlate.{is_correlating, next_correlated, passed_on}
use Rattle.zb_rules.specs.Making.{Making, just, and_then}

-- what is told of a subscription that is there already
abbrev pub subscription_there : ℕ → List ℕ
subscription_there key = codes "subscription " ++ (decimal key ++ codes " is there")

-- and of one that isn't correlating this message
abbrev pub no_correlation : (subscription message : ℕ) → List ℕ
no_correlation subscription message = codes "no correlation of " ++ (decimal message ++ (codes " at " ++ decimal subscription))

-- the rejection where no subscription has the key
abbrev pub unknown_subscription : ℕ → Rejection
unknown_subscription key = record { kind = kinds.NotFound; reason = no_subscription key }

-- the rejection of an opening, if there is a reason for one (Zeebe)
abbrev pub reason_to_open : List Event → ℕ → Option Rejection
reason_to_open before key = if is_subscribed key before then Some (record { kind = kinds.AlreadyExists; reason = subscription_there key }) else None

-- that of what is said of a message, which the subscription has to be correlating
abbrev pub reason_to_take : List Event → SubscribedMessage → Option Rejection
reason_to_take before c = if is_correlating c.subscription c.message before then None else Some (record { kind = kinds.NotFound; reason = no_correlation c.subscription c.message })

-- and that of a deletion
abbrev pub reason_to_delete : List Event → ℕ → Option Rejection
reason_to_delete before key = if is_subscribed key before then None else Some (unknown_subscription key)

-- a subscription is opened, and begins to correlate its next message
abbrev pub opened : MessageSubscription → Making
opened c = and_then (just (events.MessageSubscriptionCreated c)) (next_correlated c.subscription)

-- the message was taken: the subscription ends with it, or begins to correlate its next one
abbrev pub taken : SubscribedMessage → Making
taken c = and_then (just (events.MessageSubscriptionCorrelated c)) (next_correlated c.subscription)

-- the message was turned away: the subscription gives it up and ends, and the message passes on
abbrev pub turned_away : SubscribedMessage → Making
turned_away c = and_then (just (events.MessageSubscriptionRejected c)) (passed_on c.subscription c.message)

-- the message that a subscription is correlating, if it isn't among those that were kept
abbrev pub unkept_message : MessageSubscriptionDelete → List Event → Option ℕ
unkept_message c before = option_and_then (λ s. option_and_then (λ m. if list_any (λ key. key == m) c.keys then None else Some m) s.correlating) (subscription_at c.subscription before)

-- a subscription is deleted that gives a message up, which passes on behind that
abbrev pub deleted_with : (subscription message : ℕ) → Making
deleted_with subscription message = and_then (just (events.MessageSubscriptionRejected (record { subscription = subscription; message = message })))
    (and_then (just (events.MessageSubscriptionDeleted subscription)) (passed_on subscription message))

-- a subscription is deleted: what it is correlating it gives up first, unless that was kept
abbrev pub unsubscribed : MessageSubscriptionDelete → Making
unsubscribed c before = option_map_or (λ m. deleted_with c.subscription m before) (unkept_message c before) (events.MessageSubscriptionDeleted c.subscription ∷ [])

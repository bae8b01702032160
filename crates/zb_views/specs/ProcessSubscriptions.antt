-- The subscriptions of element instances, at the partition of these: queries over the events of a log.
use Rattle.std.specs.Prelude.{ℕ, List, [], ◌∷◌, ◌++◌, Bool, true, false, ◌==◌, if◌then◌else◌, Option, Some, None}
use Rattle.std.specs.List.{find, list_any}
use Rattle.zb_exchange_records.specs.declared.subscription.ProcessMessageSubscriptionCreating.{ProcessMessageSubscriptionCreating}
use Rattle.zb_model.specs.declared.record.Event.{Event}
use Rattle.zb_model.specs.declared.record.Event.TheVariants as events
use Rattle.zb_views.specs.Standing.{Sort, standing}
use Rattle.zb_views.specs.declared.process_subscription.ProcessSubscription.{ProcessSubscription}
use Rattle.zb_views.specs.declared.process_subscription.WaitPhase.{WaitPhase}
use Rattle.zb_views.specs.declared.process_subscription.WaitPhase.TheVariants as phases

-- a subscription as an element instance opens it: it is being created, and was given no message (Zeebe)
abbrev pub process_subscription_of : ProcessMessageSubscriptionCreating → ProcessSubscription
process_subscription_of e = record {
  key = e.subscription;
  cell = e.cell;
  node = e.node;
  name = e.name;
  correlation_key = e.correlation_key;
  process = e.process;
  cancel = e.cancel;
  phase = phases.Creating;
  kept = [];
}

-- the subscription that an event opens
abbrev pub process_subscription_told : Event → Option ProcessSubscription
process_subscription_told (events.ProcessMessageSubscriptionCreating e) = Some (process_subscription_of e)
process_subscription_told _ = None

-- an event ends the subscription with a key: it is deleted. One whose cell ends stands until then (Zeebe)
abbrev pub ends_process_subscription : ℕ → Event → Bool
ends_process_subscription subscription (events.ProcessMessageSubscriptionDeleted key) = subscription == key
ends_process_subscription subscription _ = false

-- the phase of a subscription behind an event: it is created, or begins to be deleted (Zeebe)
abbrev pub wait_phase_by : Event → ProcessSubscription → WaitPhase
wait_phase_by (events.ProcessMessageSubscriptionCreated key) s = if s.key == key then phases.Created else s.phase
wait_phase_by (events.ProcessMessageSubscriptionDeleting e) s = if s.key == e.subscription then phases.Deleting else s.phase
wait_phase_by _ s = s.phase

-- the messages that a subscription was given, behind an event (Zeebe)
abbrev pub messages_kept_by : Event → ProcessSubscription → List ℕ
messages_kept_by (events.ProcessMessageSubscriptionCorrelated e) s = if s.key == e.subscription then s.kept ++ e.message ∷ [] else s.kept
messages_kept_by _ s = s.kept

-- a subscription as an event says (Zeebe)
abbrev pub process_subscription_changed : Event → ProcessSubscription → ProcessSubscription
process_subscription_changed e s = record s { phase = wait_phase_by e s; kept = messages_kept_by e s }

-- subscriptions are opened, change and are deleted (Zeebe)
abbrev pub process_subscription_sort : Sort ProcessSubscription
process_subscription_sort = record {
  told = λ before e. process_subscription_told e;
  ends = λ before e s. ends_process_subscription s.key e;
  says = λ before e s. process_subscription_changed e s;
}

-- the subscriptions that are there: those that were opened and not deleted after, in the order in which they were opened (Zeebe)
abbrev pub process_subscriptions : List Event → List ProcessSubscription
process_subscriptions es = standing process_subscription_sort es

-- the subscription with a key
abbrev pub process_subscription_at : ℕ → List Event → Option ProcessSubscription
process_subscription_at key es = find (λ s. s.key == key) (process_subscriptions es)

-- it is being created: neither was it created nor is it being deleted
abbrev pub is_being_created : WaitPhase → Bool
is_being_created phases.Creating = true
is_being_created phase = false

-- it is being deleted
abbrev pub is_being_deleted : WaitPhase → Bool
is_being_deleted phases.Deleting = true
is_being_deleted phase = false

-- it was given this message before
abbrev pub has_kept : ℕ → ProcessSubscription → Bool
has_kept message s = list_any (λ key. key == message) s.kept

-- an event opens no such subscription, ends none and changes none (own)
abbrev pub says_nothing_of_process_subscriptions : Event → Bool
says_nothing_of_process_subscriptions (events.ProcessMessageSubscriptionCreating e) = false
says_nothing_of_process_subscriptions (events.ProcessMessageSubscriptionCreated key) = false
says_nothing_of_process_subscriptions (events.ProcessMessageSubscriptionCorrelated e) = false
says_nothing_of_process_subscriptions (events.ProcessMessageSubscriptionDeleted key) = false
says_nothing_of_process_subscriptions (events.ProcessMessageSubscriptionDeleting e) = false
says_nothing_of_process_subscriptions _ = true

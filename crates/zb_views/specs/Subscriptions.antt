-- The subscriptions at the home of their messages, and which messages are locked: queries over the events of a log.
use Rattle.std.specs.Prelude.{ℕ, List, [], ◌∷◌, ◌++◌, Bool, true, false, ◌==◌, ◌&&◌, not, is_some, if◌then◌else◌, Option, Some, None, option_map}
use Rattle.std.specs.Option.{option_map_or}
use Rattle.std.specs.List.{find, list_any}
use Rattle.std.specs.Str.{bytes_eq}
use Rattle.zb_exchange_records.specs.declared.subscription.MessageSubscription.{MessageSubscription}
use Rattle.zb_model.specs.declared.record.Event.{Event}
use Rattle.zb_model.specs.declared.record.Event.TheVariants as events
use Rattle.zb_views.specs.Processes.{process_in}
use Rattle.zb_views.specs.Standing.{Sort, standing}
use Rattle.zb_views.specs.Told.{last_told}
use Rattle.zb_views.specs.declared.lock.Lock.{Lock}
use Rattle.zb_views.specs.declared.subscription.Subscription.{Subscription}

-- a subscription as it is opened: it correlates no message (Zeebe)
abbrev pub subscription_of : MessageSubscription → Subscription
subscription_of s = record { key = s.subscription; name = s.name; correlation_key = s.correlation_key; process = s.process; cancel = s.cancel; correlating = None }

-- the subscription that an event opens
abbrev pub subscription_told : Event → Option Subscription
subscription_told (events.MessageSubscriptionCreated s) = Some (subscription_of s)
subscription_told _ = None

-- an event ends a subscription: it gives up its message, it is deleted, or it has correlated the message with which it ends (Zeebe)
abbrev pub ends_subscription : Event → Subscription → Bool
ends_subscription (events.MessageSubscriptionRejected e) s = s.key == e.subscription
ends_subscription (events.MessageSubscriptionDeleted key) s = s.key == key
ends_subscription (events.MessageSubscriptionCorrelated e) s = (s.key == e.subscription) && s.cancel
ends_subscription e s = false

-- a subscription that correlates this, or nothing
abbrev pub with_task : Option ℕ → Subscription → Subscription
with_task task s = record { key = s.key; name = s.name; correlation_key = s.correlation_key; process = s.process; cancel = s.cancel; correlating = task }

-- what an event makes of a subscription that it doesn't end: it begins to correlate a message, or has correlated it (Zeebe)
abbrev pub task_by : Event → Subscription → Subscription
task_by (events.MessageSubscriptionCorrelating e) s = if s.key == e.subscription then with_task (Some e.message) s else s
task_by (events.MessageSubscriptionCorrelated e) s = if s.key == e.subscription then with_task None s else s
task_by e s = s

-- subscriptions are opened and end, and correlate one message after the other (Zeebe)
abbrev pub subscription_sort : Sort Subscription
subscription_sort = record {
  told = λ before e. subscription_told e;
  ends = λ before e s. ends_subscription e s;
  says = λ before e s. task_by e s;
}

-- the subscriptions that are there, in the order in which they were opened (Zeebe)
abbrev pub subscriptions : List Event → List Subscription
subscriptions es = standing subscription_sort es

-- the subscription with a key
abbrev pub subscription_at : ℕ → List Event → Option Subscription
subscription_at key es = find (λ s. s.key == key) (subscriptions es)

-- a subscription with this key is there
abbrev pub is_subscribed : ℕ → List Event → Bool
is_subscribed key es = is_some (subscription_at key es)

-- with what an event opens the subscription with a key, if it does
abbrev pub opened_told : ℕ → Event → Option MessageSubscription
opened_told key (events.MessageSubscriptionCreated s) = if s.subscription == key then Some s else None
opened_told key _ = None

-- with what the subscription with a key was opened last, also where it has ended since
abbrev pub opened_in : ℕ → List Event → Option MessageSubscription
opened_in key es = last_told (opened_told key) es

-- the lock of a message for a process
abbrev pub lock_for : (message : ℕ) (process : List ℕ) → Lock
lock_for message process = record { message = message; process = process }

-- the lock that an event sets, by the events before it: for the process of the instance that the message starts, or of the subscription that begins to correlate it (Zeebe)
abbrev pub lock_told : List Event → Event → Option Lock
lock_told before (events.MessageStartEventSubscriptionCorrelated e) = option_map (λ d. lock_for e.message d.model.process) (process_in e.definition before)
lock_told before (events.MessageSubscriptionCorrelating e) = option_map (λ s. lock_for e.message s.process) (opened_in e.subscription before)
lock_told before _ = None

-- an event frees a lock: the message has expired, or was given up by a subscription of the process (Zeebe)
abbrev pub frees : List Event → Event → Lock → Bool
frees before (events.MessageExpired key) lock = lock.message == key
frees before (events.MessageSubscriptionRejected e) lock = (lock.message == e.message) && option_map_or (λ s. bytes_eq s.process lock.process) (opened_in e.subscription before) false
frees before _ lock = false

-- locks are set and freed (Zeebe)
abbrev pub lock_sort : Sort Lock
lock_sort = record {
  told = λ before e. lock_told before e;
  ends = λ before e lock. frees before e lock;
  says = λ before e lock. lock;
}

-- the locks that stand, in the order in which they were set (Zeebe)
abbrev pub locks : List Event → List Lock
locks es = standing lock_sort es

-- it is the lock of this message for this process
abbrev pub is_lock : ℕ → List ℕ → Lock → Bool
is_lock message process lock = (lock.message == message) && bytes_eq lock.process process

-- a message is locked for a process (Zeebe)
abbrev pub is_locked_for : ℕ → List ℕ → List Event → Bool
is_locked_for message process es = list_any (is_lock message process) (locks es)

-- a subscription is for messages of this name and correlation key (Zeebe)
abbrev pub wants_messages : (name correlation_key : List ℕ) → Subscription → Bool
wants_messages name correlation_key s = bytes_eq s.name name && bytes_eq s.correlation_key correlation_key

-- and correlates none so far
abbrev pub is_idle_for : (name correlation_key : List ℕ) → Subscription → Bool
is_idle_for name correlation_key s = wants_messages name correlation_key s && not (is_some s.correlating)

-- an event opens no subscription that is there (own)
abbrev pub opens_new : List Event → Event → Bool
opens_new before e = option_map_or (λ s. not (is_subscribed s.key before)) (subscription_told e) true

-- none of the events does, behind the ones before and those of the list in front of it (own)
abbrev pub all_open_new : List Event → List Event → Bool
all_open_new before [] = true
all_open_new before (e ∷ es) = opens_new before e && all_open_new (before ++ e ∷ []) es

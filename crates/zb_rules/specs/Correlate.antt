-- Which messages subscriptions correlate at the home of their messages (BPMN 2.0.2, 8.4.2 and 10.5.2; Zeebe, the records).
use Rattle.std.specs.Prelude.{ℕ, ◌==◌, List, [], ◌∷◌, map, filter, Bool, false, ◌&&◌, not, if◌then◌else◌, Option}
use Rattle.std.specs.Option.{option_map_or}
use Rattle.std.specs.List.{find}
use Rattle.std.specs.Str.{bytes_eq}
use Rattle.zb_exchange_records.specs.declared.message.MessagePublished.{MessagePublished}
use Rattle.zb_exchange_records.specs.declared.subscription.MessageCorrelation.{MessageCorrelation}
use Rattle.zb_model.specs.declared.record.Event.{Event}
use Rattle.zb_model.specs.declared.record.Event.TheVariants as events
use Rattle.zb_views.specs.Messages.{buffered, message_at}
use Rattle.zb_views.specs.Subscriptions.{wants_messages, is_idle_for, is_locked_for, subscriptions, subscription_at, opened_in}
use Rattle.zb_views.specs.declared.subscription.Subscription.{Subscription}
use Rattle.zb_rules.specs.Making.{Making, each_made}

-- a subscription may correlate a message: it waits for that name and correlation key, correlates none, and the message isn't locked for its process (Zeebe)
abbrev pub fits_message : MessagePublished → Subscription → List Event → Bool
fits_message m s before = is_idle_for m.name m.correlation_key s && not (is_locked_for m.key s.process before)

-- a subscription begins to correlate a message, with its variables
abbrev pub correlating_event : MessagePublished → Subscription → Event
correlating_event m s = events.MessageSubscriptionCorrelating (record { subscription = s.key; message = m.key; variables = m.variables })

-- a message begins to be correlated: the subscription is there, the message is buffered, and it may have it (Zeebe)
abbrev pub begins_correlating : MessageCorrelation → List Event → Bool
begins_correlating e before = option_map_or (λ s. option_map_or (λ m. fits_message m s before) (message_at e.message before) false) (subscription_at e.subscription before) false

-- a subscription is correlating this message, which need not be buffered still (Zeebe)
abbrev pub is_correlating : (subscription message : ℕ) → List Event → Bool
is_correlating subscription message before = option_map_or (λ s. option_map_or (λ m. m == message) s.correlating false) (subscription_at subscription before) false

-- the subscription with a key begins to correlate a message that is published, if it may
abbrev pub correlated_by : MessagePublished → ℕ → Making
correlated_by m key before = option_map_or (λ s. if fits_message m s before then correlating_event m s ∷ [] else []) (subscription_at key before) []

-- each for its name and correlation key that may does, in the order in which they were opened: one of each process, for which the message is locked then (Zeebe)
abbrev pub correlated_all : MessagePublished → Making
correlated_all m before = each_made (correlated_by m) (map (λ s. s.key) (filter (wants_messages m.name m.correlation_key) (subscriptions before))) before

-- the first buffered message that a subscription may correlate (Zeebe)
abbrev pub next_message : Subscription → List Event → Option MessagePublished
next_message s before = find (λ m. fits_message m s before) (buffered before)

-- the subscription with a key begins to correlate the next message, if it is there and there is one (Zeebe)
abbrev pub next_correlated : ℕ → Making
next_correlated key before = option_map_or (λ s. option_map_or (λ m. correlating_event m s ∷ []) (next_message s before) []) (subscription_at key before) []

-- of the subscriptions of a process the first that may correlate a message, in the order in which they were opened (Zeebe)
abbrev pub next_subscription : MessagePublished → List ℕ → List Event → Option Subscription
next_subscription m process before = find (λ s. bytes_eq s.process process && fits_message m s before) (subscriptions before)

-- a message passes to the next subscription of a process, if it is buffered and there is one
abbrev pub passed_to : (message : ℕ) (process : List ℕ) → Making
passed_to message process before = option_map_or (λ m. option_map_or (λ s. correlating_event m s ∷ []) (next_subscription m process before) []) (message_at message before) []

-- a message that a subscription gives up passes to the next one of its process (Zeebe)
abbrev pub passed_on : (subscription message : ℕ) → Making
passed_on subscription message before = option_map_or (λ opened. passed_to message opened.process before) (opened_in subscription before) []

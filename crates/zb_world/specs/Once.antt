-- What happens at most once in a history.
use Rattle.std.specs.Prelude.{◌≡◌, ℕ, ◌==◌, ◌≤◌, List, [], length, Bool, false, ◌&&◌, IsTrue, Some}
use Rattle.std.specs.List.{list_any}
use Rattle.std.specs.Str.{bytes_eq}
use Rattle.zb_model.specs.declared.record.Event.{Event}
use Rattle.zb_model.specs.declared.record.Event.TheVariants as events
use Rattle.zb_views.specs.declared.definition.Definition.{Definition}
use Rattle.zb_views.specs.Definitions.{definitions}
use Rattle.zb_views.specs.declared.process_subscription.ProcessSubscription.{ProcessSubscription}
use Rattle.zb_views.specs.ProcessSubscriptions.{process_subscription_at}
use Rattle.zb_views.specs.Timers.{times_timer_ended}
use Rattle.zb_views.specs.View.{events_of}
use Rattle.zb_rules.specs.JobEnds.{times_ended}
use Rattle.zb_rules.specs.WaitEvents.{is_open}
use Rattle.zb_once.specs.Once.{AtMostOne}
use Rattle.zb_world.specs.Entries.{happenings, part_of}
use Rattle.zb_world.specs.declared.entry.Entry.{Entry}

-- the event opens the subscription with this key for a process (Zeebe)
abbrev pub opens_for : ℕ → List ℕ → Event → Bool
opens_for subscription process (events.ProcessMessageSubscriptionCreating e) = (e.subscription == subscription) && bytes_eq e.process process
opens_for subscription process _ = false

-- the definition with this key is one of a process (Zeebe)
abbrev pub defines : ℕ → List ℕ → Definition → Bool
defines key process definition = (definition.key == key) && bytes_eq definition.process process

-- among all events this one correlates a message with a process: at a subscription that was opened for it, or at a start event of one of its definitions (Zeebe)
abbrev pub correlates : List Event → ℕ → List ℕ → Event → Bool
correlates all message process (events.ProcessMessageSubscriptionCorrelated e) = (e.message == message) && list_any (opens_for e.subscription process) all
correlates all message process (events.MessageStartEventSubscriptionCorrelated e) = (e.message == message) && list_any (defines e.definition process) (definitions all)
correlates all message process _ = false

-- a subscription that ends with its first message was given at most one, and none as long as it is open (BPMN 2.0.2, 10.5.4 and 13.5.3)
abbrev pub IsGivenOnce : ProcessSubscription → Type 0
IsGivenOnce s = IsTrue s.cancel → (length s.kept ≤ 1) × (IsTrue (is_open s.phase) → s.kept ≡ [])

-- a message is correlated with a process at most once, an event that is waited for once gets one message for each time that it opens, a job is over at most once, and a timer ends at most once, whatever the partitions are at which that happens (Zeebe; the exact form own)
pub record HappensOnce (h : List Entry) : Type 0 where
  pub messages : (message : ℕ) (process : List ℕ) → AtMostOne (correlates (happenings h) message process) (happenings h)
  pub catches : (partition subscription : ℕ) (s : ProcessSubscription) → process_subscription_at subscription (events_of (part_of partition h)) ≡ Some s → IsGivenOnce s
  pub jobs : (job : ℕ) → times_ended job (happenings h) ≤ 1
  pub timers : (timer : ℕ) → times_timer_ended timer (happenings h) ≤ 1

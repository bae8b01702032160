-- What an event makes of the tables of a state.
use Rattle.std.specs.Prelude.{◌≡◌, ◌+◌, ◌<◌, ◌^◌, ℕ, ◌==◌, List, [], Bool, ◌&&◌, IsTrue, is_none}
use Rattle.std.specs.List.{find}
use Rattle.zb_base.specs.Key.{key_of}
use Rattle.zb_exchange_records.specs.declared.message.MessagePublished.{MessagePublished}
use Rattle.zb_model.specs.declared.record.Event.{Event}
use Rattle.zb_model.specs.declared.record.Event.TheVariants as events
use Rattle.zb_table.specs.Rows.{are_below}
use Rattle.zb_views.specs.declared.job.Job.{Job}
use Rattle.zb_views.specs.declared.process_subscription.ProcessSubscription.{ProcessSubscription}
use Rattle.zb_views.specs.declared.timer.Timer.{Timer}
use Rattle.zb_views.specs.Standing.{standing_by}
use Rattle.zb_views.specs.Jobs.{job_sort}
use Rattle.zb_views.specs.Timers.{timer_sort}
use Rattle.zb_views.specs.ProcessSubscriptions.{process_subscription_sort}
use Rattle.zb_views.specs.Subscriptions.{subscription_sort}
use Rattle.zb_record.specs.Sendings.{sending_sort}
use Rattle.zb_starts.specs.Change.{locks_by, instances_by}
use Rattle.zb_starts.specs.declared.change.Change.{Change}
use Rattle.zb_tables.specs.declared.tables.Tables.{Tables}

-- each table has taken an event in, which changes this of locks and of instances that messages have started (own)
pub record HaveTaken (e : Event) (change : Change) (old new : Tables) : Type 0 where
  pub sendings : new.sendings ≡ standing_by sending_sort [] e old.sendings
  pub jobs : new.jobs ≡ standing_by job_sort [] e old.jobs
  pub timers : new.timers ≡ standing_by timer_sort [] e old.timers
  pub locks : new.starts.locks ≡ locks_by change old.starts.locks
  pub starts : new.starts.starts ≡ instances_by change old.starts.starts
  pub subscriptions : new.subscriptions ≡ standing_by subscription_sort [] e old.subscriptions
  pub process_subscriptions : new.process_subscriptions ≡ standing_by process_subscription_sort [] e old.process_subscriptions

-- the key is the next one behind a counter of partition p, and there is one (own)
abbrev pub IsNext : (p counter : ℕ) → ℕ → Type 0
IsNext p counter key = (counter + 1 < 2 ^ 51) × (key ≡ key_of p (counter + 1))

-- what an event begins has the next key behind a counter, and a job is the first of its cell (own)
abbrev pub Draws : (p counter : ℕ) → List Job → Event → Type 0
Draws p counter js (events.ProcessInstanceCreationCreated e) = IsNext p counter e.key
Draws p counter js (events.MessageStartEventSubscriptionCorrelated e) = IsNext p counter e.instance
Draws p counter js (events.MessagePublished m) = IsNext p counter m.key
Draws p counter js (events.JobCreated e) = IsNext p counter e.key × IsTrue (is_none (find (λ j. j.cell == e.cell) js))
Draws p counter js (events.TimerCreated e) = IsNext p counter e.key
Draws p counter js (events.ProcessMessageSubscriptionCreating e) = IsNext p counter e.subscription
Draws p counter js _ = Unit {0}

-- the keys of the messages, the jobs and the timers are below this one (own)
abbrev pub are_all_below : ℕ → List MessagePublished → List Job → List Timer → Bool
are_all_below high ms js ts = are_below (λ m. m.key) high ms && (are_below (λ j. j.key) high js && are_below (λ t. t.key) high ts)

-- the keys of the subscriptions of element instances are below this one (own)
abbrev pub are_waiting_below : ℕ → List ProcessSubscription → Bool
are_waiting_below high ss = are_below (λ s. s.key) high ss

-- The keys of the tables, as an event is taken in: they stay below the next one.
use Rattle.std.proofs.Common.{◌≡◌, ℕ, ◌+◌, ◌<◌, ◌≤◌, max, Some, Bool, true, false, ◌&&◌, Result, Ok, Err, OnOk, OnErr, List, [], IsTrue, refl, ap, subst, ◌∙◌, arith}
use Rattle.std.specs.Prelude.{⊤}
use Rattle.std.specs.declared.alloc.AllocError.{AllocError}
use Rattle.zb_base.specs.Key.{key_of}
use Rattle.zb_exchange_records.specs.declared.message.MessagePublished.{MessagePublished}
use Rattle.zb_model.specs.declared.record.Event.{Event}
use Rattle.zb_model.specs.declared.record.Event.TheVariants as events
use Rattle.zb_table.specs.Rows.{are_below}
use Rattle.zb_table.proofs.Growing.{below_higher}
use Rattle.zb_views.specs.View.{counter_at, keys_in, greatest_among}
use Rattle.zb_views.proofs.CounterLaws.{counter_at-key_of}
use Rattle.zb_views.specs.Standing.{standing_by}
use Rattle.zb_views.proofs.StandingLaws.{below_by}
use Rattle.zb_views.specs.Messages.{message_told, message_sort}
use Rattle.zb_views.specs.declared.job.Job.{Job}
use Rattle.zb_views.specs.Jobs.{new_job, job_told, job_sort}
use Rattle.zb_views.specs.declared.timer.Timer.{Timer}
use Rattle.zb_views.specs.Timers.{timer_of, timer_told, timer_sort}
use Rattle.zb_views.specs.declared.process_subscription.ProcessSubscription.{ProcessSubscription}
use Rattle.zb_views.specs.ProcessSubscriptions.{process_subscription_of, process_subscription_told, process_subscription_sort}
use Rattle.zb_jobs.specs.Table.{has_place_for}
use Rattle.zb_timers.specs.Table.{has_place_for_timer}
use Rattle.zb_subscriptions.specs.Waiting.{has_place_for_waiting}
use Rattle.zb_tables.specs.Messages.{has_place_for_message}
use Rattle.zb_tables.specs.Tables.{HaveTaken, IsNext, Draws, are_all_below, are_waiting_below}
use Rattle.zb_tables.specs.declared.tables.Tables.{Tables}
use Rattle.zb_starts.specs.declared.change.Change.{Change}

abbrev message_key : MessagePublished → ℕ
message_key m = m.key

abbrev job_key : Job → ℕ
job_key j = j.key

abbrev timer_key : Timer → ℕ
timer_key t = t.key

-- what three tests say
pub record Below (high : ℕ) (ms : List MessagePublished) (js : List Job) (ts : List Timer) : Type 0 where
  pub messages : IsTrue (are_below message_key high ms)
  pub jobs : IsTrue (are_below job_key high js)
  pub timers : IsTrue (are_below timer_key high ts)

pub each_below : (high : ℕ) (ms : List MessagePublished) (js : List Job) (ts : List Timer) → IsTrue (are_all_below high ms js ts) → Below high ms js ts
each_below high ms js ts all = by_tests (are_below message_key high ms) (are_below job_key high js) refl refl all
  where
    by_tests : (m j : Bool) → are_below message_key high ms ≡ m → are_below job_key high js ≡ j → IsTrue (m && (j && are_below timer_key high ts)) → Below high ms js ts
    by_tests true true is_m is_j all = record { messages = is_m; jobs = is_j; timers = all }
    by_tests true false is_m is_j all = absurd (cc)
    by_tests false j is_m is_j all = absurd (cc)

-- an event finds its place in each table
module _ (p n : ℕ) (ms : List MessagePublished) (js : List Job) (ts : List Timer) (below : IsTrue (are_all_below (key_of p (n + 1)) ms js ts)) where
  pub has_place_in_messages : (js' : List Job) (e : Event) → Draws p n js' e → IsTrue (has_place_for_message ms e)
  has_place_in_messages js' (events.MessagePublished m) draws = rw draws.1 (each_below (key_of p (n + 1)) ms js ts below).messages
  has_place_in_messages js' e draws = refl

  pub has_place_in_jobs : (e : Event) → Draws p n js e → IsTrue (has_place_for js e)
  has_place_in_jobs (events.JobCreated x) draws =
      let high : IsTrue (are_below job_key x.key js) = rw draws.0.1 (each_below (key_of p (n + 1)) ms js ts below).jobs in
      rw (high, draws.1) refl
  has_place_in_jobs e draws = refl

  pub has_place_in_timers : (js' : List Job) (e : Event) → Draws p n js' e → IsTrue (has_place_for_timer ts e)
  has_place_in_timers js' (events.TimerCreated x) draws = rw draws.1 (each_below (key_of p (n + 1)) ms js ts below).timers
  has_place_in_timers js' e draws = refl

-- the key that an event draws is below the next one behind all that it names
drawn_below : (p n n' key rest : ℕ) → n' ≡ max n (max (counter_at p key) rest) → IsNext p n key → key < key_of p (n' + 1)
drawn_below p n n' key rest raised next =
    let drawn : counter_at p key ≡ n + 1 = ap (counter_at p) next.1 ∙ counter_at-key_of p (n + 1) next.0 in
    omega (arith, drawn, next.1, raised)

module _ (p n n' : ℕ) (js : List Job) where
  message_below : (e : Event) → n' ≡ max n (greatest_among p (keys_in e)) → Draws p n js e → (m : MessagePublished) → message_told e ≡ Some m → m.key < key_of p (n' + 1)
  message_below (events.MessagePublished x) raised draws m is =
      let same : x ≡ m = cc in
      subst (λ (y : MessagePublished). y.key < key_of p (n' + 1)) same (drawn_below p n n' x.key 0 raised draws)
  message_below e raised draws m is = absurd (cc)

  job_below : (e : Event) → n' ≡ max n (greatest_among p (keys_in e)) → Draws p n js e → (j : Job) → job_told e ≡ Some j → j.key < key_of p (n' + 1)
  job_below (events.JobCreated x) raised draws j is =
      let same : new_job x ≡ j = cc in
      subst (λ (y : Job). y.key < key_of p (n' + 1)) same (drawn_below p n n' x.key (max (counter_at p x.cell) 0) raised draws.0)
  job_below e raised draws j is = absurd (cc)

  timer_below : (e : Event) → n' ≡ max n (greatest_among p (keys_in e)) → Draws p n js e → (t : Timer) → timer_told e ≡ Some t → t.key < key_of p (n' + 1)
  timer_below (events.TimerCreated x) raised draws t is =
      let same : timer_of x ≡ t = cc in
      subst (λ (y : Timer). y.key < key_of p (n' + 1)) same (drawn_below p n n' x.key (max (counter_at p x.cell) 0) raised draws)
  timer_below e raised draws t is = absurd (cc)

-- the keys stay below the next one once an event raises the counter
each_kept : (p n n' : ℕ) (ms : List MessagePublished) (js : List Job) (ts : List Timer) (e : Event) → n' ≡ max n (greatest_among p (keys_in e)) → IsTrue (are_all_below (key_of p (n + 1)) ms js ts)
    → Below (key_of p (n' + 1)) ms js ts
each_kept p n n' ms js ts e raised below =
    let up : key_of p (n + 1) ≤ key_of p (n' + 1) = omega (arith, raised) in
    let was = each_below (key_of p (n + 1)) ms js ts below in
    record {
      messages = below_higher message_key (key_of p (n + 1)) (key_of p (n' + 1)) ms up was.messages;
      jobs = below_higher job_key (key_of p (n + 1)) (key_of p (n' + 1)) js up was.jobs;
      timers = below_higher timer_key (key_of p (n + 1)) (key_of p (n' + 1)) ts up was.timers;
    }

-- once the tables take it in, which are empty where there was no memory
pub tables_below : (p n n' : ℕ) (ms : List MessagePublished) (old new : Tables) (e : Event) (change : Change) (result : Result ⊤ AllocError)
    → n' ≡ max n (greatest_among p (keys_in e)) → Draws p n old.jobs e → IsTrue (are_all_below (key_of p (n + 1)) ms old.jobs old.timers)
    → OnOk result (HaveTaken e change old new) → OnErr result (new.jobs ≡ []) → OnErr result (new.timers ≡ [])
    → IsTrue (are_all_below (key_of p (n' + 1)) ms new.jobs new.timers)
tables_below p n n' ms old new e change (Ok done) raised draws below took no_jobs no_timers =
    let high = key_of p (n' + 1) in
    let kept = each_kept p n n' ms old.jobs old.timers e raised below in
    let jobs_are = below_by job_sort job_key high [] e old.jobs (λ j. refl) (job_below p n n' old.jobs e raised draws) kept.jobs in
    let timers_are = below_by timer_sort timer_key high [] e old.timers (λ t. refl) (timer_below p n n' old.jobs e raised draws) kept.timers in
    rw (took.jobs, took.timers, kept.messages, jobs_are, timers_are) refl
tables_below p n n' ms old new e change (Err fault) raised draws below took no_jobs no_timers = rw (no_jobs, no_timers, (each_kept p n n' ms old.jobs old.timers e raised below).messages) refl

-- and with its message, whether or not there was memory for that
pub messages_below : (p n n' : ℕ) (ms ms' : List MessagePublished) (js' js : List Job) (ts : List Timer) (e : Event) (result : Result ⊤ AllocError)
    → n' ≡ max n (greatest_among p (keys_in e)) → Draws p n js' e → IsTrue (are_all_below (key_of p (n' + 1)) ms js ts) → OnOk result (ms' ≡ standing_by message_sort [] e ms) → OnErr result (ms' ≡ ms)
    → IsTrue (are_all_below (key_of p (n' + 1)) ms' js ts)
messages_below p n n' ms ms' js' js ts e (Ok done) raised draws below ok err =
    let high = key_of p (n' + 1) in
    let was = each_below high ms js ts below in
    let messages_are = below_by message_sort message_key high [] e ms (λ m. refl) (message_below p n n' js' e raised draws) was.messages in
    rw (ok, messages_are, was.jobs, was.timers) refl
messages_below p n n' ms ms' js' js ts e (Err fault) raised draws below ok err = rw err below

-- a subscription of an element instance that an event opens finds its place
pub has_place_in_waiting : (p n : ℕ) (js : List Job) (ss : List ProcessSubscription) (e : Event) → IsTrue (are_waiting_below (key_of p (n + 1)) ss) → Draws p n js e → IsTrue (has_place_for_waiting ss e)
has_place_in_waiting p n js ss (events.ProcessMessageSubscriptionCreating x) below draws = rw draws.1 below
has_place_in_waiting p n js ss e below draws = refl

-- and they all stay below the next key
pub waiting_below : (p n n' : ℕ) (old new : Tables) (e : Event) (change : Change) (result : Result ⊤ AllocError)
    → n' ≡ max n (greatest_among p (keys_in e)) → Draws p n old.jobs e → IsTrue (are_waiting_below (key_of p (n + 1)) old.process_subscriptions)
    → OnOk result (HaveTaken e change old new) → OnErr result (new.process_subscriptions ≡ []) → IsTrue (are_waiting_below (key_of p (n' + 1)) new.process_subscriptions)
waiting_below p n n' old new e change (Ok done) raised draws below took none =
    let key : ProcessSubscription → ℕ = λ s. s.key in
    let high = key_of p (n' + 1) in
    let up : key_of p (n + 1) ≤ high = omega (arith, raised) in
    rw took.process_subscriptions (below_by process_subscription_sort key high [] e old.process_subscriptions (λ s. refl) (opened_below e raised draws) (below_higher key (key_of p (n + 1)) high old.process_subscriptions up below))
  where
    opened_below : (e : Event) → n' ≡ max n (greatest_among p (keys_in e)) → Draws p n old.jobs e → (s : ProcessSubscription) → process_subscription_told e ≡ Some s → s.key < key_of p (n' + 1)
    opened_below (events.ProcessMessageSubscriptionCreating x) raised draws s is =
        let same : process_subscription_of x ≡ s = cc in
        subst (λ (y : ProcessSubscription). y.key < key_of p (n' + 1)) same (drawn_below p n n' x.subscription (max (counter_at p x.cell) 0) raised draws)
    opened_below e raised draws s is = absurd (cc)
waiting_below p n n' old new e change (Err fault) raised draws below took none = rw none refl

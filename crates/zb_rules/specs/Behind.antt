-- The events behind one by which a cell becomes active or begins to end: what it waits for begins, and ends with it (Zeebe, the records).
use Rattle.std.specs.Prelude.{ℕ, ◌==◌, List, [], ◌∷◌, map, filter, true, if◌then◌else◌, option_and_then}
use Rattle.std.specs.Option.{option_map_or}
use Rattle.zb_process.specs.declared.model.Node.{Node}
use Rattle.zb_model.specs.declared.record.Event.{Event}
use Rattle.zb_model.specs.declared.record.Event.TheVariants as events
use Rattle.zb_views.specs.View.{next_key}
use Rattle.zb_views.specs.Jobs.{job_on}
use Rattle.zb_views.specs.Timers.{timers_on}
use Rattle.zb_views.specs.ProcessSubscriptions.{process_subscriptions, process_subscription_at, is_being_deleted}
use Rattle.zb_views.specs.declared.process_subscription.ProcessSubscription.{ProcessSubscription}
use Rattle.zb_tokens.specs.declared.board.Awaited.{Awaited}
use Rattle.zb_tokens.specs.declared.board.Awaited.TheVariants as awaiteds
use Rattle.zb_tokens.specs.declared.board.Incident.{Incident}
use Rattle.zb_tokens.specs.declared.board.Opening.{Opening}
use Rattle.zb_tokens.specs.Bodies.{run_variables_at}
use Rattle.zb_tokens.specs.Catches.{openings_at}
use Rattle.zb_tokens.specs.Incidents.{incident_on}
use Rattle.zb_tokens.specs.Work.{work_at}
use Rattle.zb_rules.specs.Starts.{started_behind}
use Rattle.zb_rules.specs.Update.{set_each}
use Rattle.zb_rules.specs.Making.{Making, just, and_then, each_made}
use Rattle.zb_tokens.specs.MoveTrigger.{is_interrupting}
use Rattle.zb_rules.specs.Shown.{board_of, holds_of_game}

-- the event by which an incident is resolved, with the job that is its cause; 0 where none is
abbrev pub repair_event : Incident → Event
repair_event i = events.IncidentResolved (record { key = i.key; job = i.job })

-- the incident on the cell with a key is resolved, if one stands there (Zeebe, incidents)
abbrev pub resolved_on : ℕ → Making
resolved_on cell before = option_map_or (λ i. repair_event i ∷ []) (option_and_then (λ b. incident_on b cell) (board_of before)) []

-- a job of the cell with a key by its node: with the type of that, and as many tries as it gives (Zeebe, jobs)
abbrev pub job_of : (p cell : ℕ) → Node → Making
job_of p cell n before = events.JobCreated (record { key = next_key p before; cell = cell; kind = n.name; retries = n.retries }) ∷ []

-- the job of the cell with a key is made, if it is to have one (BPMN 2.0.2, 13.3.3; Zeebe, jobs)
abbrev pub job_made_on : (p cell : ℕ) → Making
job_made_on p cell before = option_map_or (λ n. job_of p cell n before) (option_and_then (λ b. work_at b cell) (board_of before)) []

-- the job is canceled that the cell with a key had before it began to terminate, if it had one (Zeebe, jobs)
abbrev pub job_canceled_on : List Event → ℕ → Making
job_canceled_on seen cell before = option_map_or (λ j. events.JobCanceled j.key ∷ []) (job_on cell seen) []

-- the event by which a cell begins to wait for an event at a node: a timer is made under this key, or a subscription opens under it (Zeebe, the records)
abbrev pub opened_by : (key cell : ℕ) → List ℕ → Awaited → Event
opened_by key cell node (awaiteds.Time due) = events.TimerCreated (record { key = key; cell = cell; node = node; due = due })
opened_by key cell node (awaiteds.Message m) = events.ProcessMessageSubscriptionCreating (record {
  subscription = key;
  cell = cell;
  node = node;
  name = m.name;
  correlation_key = m.correlation_key;
  process = m.process;
  cancel = m.cancel;
})

-- what opens for the cell with a key does so, under a fresh key
abbrev pub catch_opened : (p cell : ℕ) → Opening → Making
catch_opened p cell o before = opened_by (next_key p before) cell o.node o.event ∷ []

-- the timers and subscriptions of the cell with a key open, as it has become active (BPMN 2.0.2, 13.5.3; Zeebe, the records)
abbrev pub catches_opened_on : (p moment cell : ℕ) → Making
catches_opened_on p moment cell before = each_made (catch_opened p cell) (option_map_or (λ b. openings_at b moment cell) (board_of before) []) before

-- the timers of the cell with a key are canceled, by their keys (Zeebe, timers)
abbrev pub timers_canceled_on : ℕ → Making
timers_canceled_on cell before = map (λ t. events.TimerCanceled t.key) (timers_on cell before)

-- a subscription begins to be deleted, with the messages that it was given (Zeebe; the messages own)
abbrev pub closing_of : ProcessSubscription → Event
closing_of s = events.ProcessMessageSubscriptionDeleting (record { subscription = s.key; correlation_key = s.correlation_key; keys = s.kept })

-- the one with a key does, unless it is being deleted
abbrev pub closed_one : ℕ → Making
closed_one key before = option_map_or (λ s. if is_being_deleted s.phase then [] else closing_of s ∷ []) (process_subscription_at key before) []

-- the keys of the subscriptions of the cell with a key, in the order in which they opened
abbrev pub subscriptions_on : ℕ → List Event → List ℕ
subscriptions_on cell es = map (λ s. s.key) (filter (λ s. s.cell == cell) (process_subscriptions es))

-- the subscriptions of the cell with a key begin to be deleted, by their keys (Zeebe)
abbrev pub subscriptions_closed_on : ℕ → Making
subscriptions_closed_on cell before = each_made closed_one (subscriptions_on cell before) before

-- what a cell with a key has waited for closes: its timers, and then its subscriptions (Zeebe, the records)
abbrev pub catches_closed_on : ℕ → Making
catches_closed_on cell = and_then (timers_canceled_on cell) (subscriptions_closed_on cell)

-- what waits for a cell that begins to terminate behind these events ends: its job is canceled, then its timers and subscriptions close, and then the incident on it is resolved (Zeebe, the records)
abbrev pub ended_on : List Event → ℕ → Making
ended_on seen cell = and_then (job_canceled_on seen cell) (and_then (catches_closed_on cell) (resolved_on cell))

-- a cell begins to terminate, and what waits for it ends (BPMN 2.0.2, 13.3.2; Zeebe, the records)
abbrev pub halted_on : ℕ → Making
halted_on cell before = and_then (just (events.ElementTerminating cell)) (ended_on before cell) before

-- a cell begins to terminate where a boundary event that interrupts it has come about at this node (BPMN 2.0.2, 10.5.4 and 13.5.3)
abbrev pub interrupted_on : (cell : ℕ) → List ℕ → Making
interrupted_on cell node before = if holds_of_game (is_interrupting cell node) before then halted_on cell before else []

-- a run of a body has its variables set as it begins (BPMN 2.0.2, 13.3.7)
abbrev pub run_set_on : ℕ → Making
run_set_on cell before = set_each true cell (option_map_or (λ b. run_variables_at b cell) (board_of before) []) before

-- the events behind an event, which is told what was before it: a run of a body that begins has its variables set; a cell that becomes active has its job made, and what it waits for opens; that closes where it begins to complete, and
-- all that waits for it ends where it begins to terminate; a boundary event that interrupts ends its cell. So far there are no others (Zeebe, the records)
abbrev pub events_behind : (p moment : ℕ) → List Event → Event → Making
events_behind p moment seen (events.ElementActivating e) before = run_set_on e.key before
events_behind p moment seen (events.ElementActivated e) before = and_then (job_made_on p e.key) (catches_opened_on p moment e.key) before
events_behind p moment seen (events.ElementCompleting key) before = catches_closed_on key before
events_behind p moment seen (events.ElementTerminating key) before = ended_on seen key before
events_behind p moment seen (events.ProcessEventTriggered e) before = interrupted_on e.cell e.node before
events_behind p moment seen (events.ElementCompleted e) before = started_behind p seen e.key before
events_behind p moment seen (events.ElementTerminated key) before = started_behind p seen key before
events_behind p moment seen e before = []

-- an event, and those behind it (Zeebe, the records)
abbrev pub with_events_behind : (p moment : ℕ) → Event → Making
with_events_behind p moment e before = and_then (just e) (events_behind p moment before e) before

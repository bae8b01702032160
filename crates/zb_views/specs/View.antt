-- Views of a log: queries over all its events.
use Rattle.std.specs.Prelude.{ℕ, ◌+◌, ◌/◌, ◌%◌, ◌^◌, ◌==◌, max, List, [], ◌∷◌, if◌then◌else◌}
use Rattle.std.specs.List.{flat_map}
use Rattle.zb_base.specs.Key.{key_of}
use Rattle.zb_model.specs.declared.record.Event.{Event}
use Rattle.zb_model.specs.declared.record.Event.TheVariants as events
pub use Rattle.zb_model.specs.Upshots.{events_in}
use Rattle.zb_model.specs.declared.record.Batch.{Batch}

-- the events of a log
abbrev pub events_of : List Batch → List Event
events_of log = flat_map (λ batch. events_in batch.outcome) log

-- every key that an event names, in the order of its fields
abbrev pub keys_in : Event → List ℕ
keys_in (events.ProcessCreated e) = e.key ∷ []
keys_in (events.DeploymentCreated e) = e.key ∷ e.definition ∷ []
keys_in (events.CommandDistributionDistributing e) = e.key ∷ []
keys_in (events.CommandDistributionAcknowledged e) = e.key ∷ []
keys_in (events.CommandDistributionFinished key) = key ∷ []
keys_in (events.ProcessInstanceCreationCreated e) = e.key ∷ e.definition ∷ []
keys_in (events.ElementActivating e) = e.key ∷ e.scope ∷ e.definition ∷ []
keys_in (events.ElementActivated e) = e.key ∷ []
keys_in (events.ElementCompleting key) = key ∷ []
keys_in (events.ElementCompleted e) = e.key ∷ []
keys_in (events.ElementTerminating key) = key ∷ []
keys_in (events.ElementTerminated key) = key ∷ []
keys_in (events.SequenceFlowTaken e) = e.key ∷ []
keys_in (events.ElementMigrated e) = e.key ∷ []
keys_in (events.ProcessInstanceMigrationMigrated e) = e.key ∷ e.definition ∷ []
keys_in (events.JobCreated e) = e.key ∷ e.cell ∷ []
keys_in (events.JobActivated e) = e.key ∷ e.instance ∷ []
keys_in (events.JobTimedOut key) = key ∷ []
keys_in (events.JobCompleted key) = key ∷ []
keys_in (events.JobCanceled key) = key ∷ []
keys_in (events.JobFailed e) = e.key ∷ []
keys_in (events.JobErrorThrown e) = e.key ∷ []
keys_in (events.JobRetriesUpdated e) = e.key ∷ []
keys_in (events.JobBatchActivated e) = e.key ∷ e.jobs
keys_in (events.TimerCreated e) = e.key ∷ e.cell ∷ []
keys_in (events.TimerTriggered key) = key ∷ []
keys_in (events.TimerCanceled key) = key ∷ []
keys_in (events.ProcessEventTriggered e) = e.cell ∷ []
keys_in (events.MessagePublished e) = e.key ∷ []
keys_in (events.MessageExpired key) = key ∷ []
keys_in (events.MessageStartEventSubscriptionCorrelated e) = e.message ∷ e.definition ∷ e.instance ∷ []
keys_in (events.MessageSubscriptionCreated e) = e.subscription ∷ []
keys_in (events.MessageSubscriptionCorrelating e) = e.subscription ∷ e.message ∷ []
keys_in (events.MessageSubscriptionCorrelated e) = e.subscription ∷ e.message ∷ []
keys_in (events.MessageSubscriptionRejected e) = e.subscription ∷ e.message ∷ []
keys_in (events.MessageSubscriptionDeleted key) = key ∷ []
keys_in (events.ProcessMessageSubscriptionCreating e) = e.subscription ∷ e.cell ∷ []
keys_in (events.ProcessMessageSubscriptionCreated key) = key ∷ []
keys_in (events.ProcessMessageSubscriptionCorrelated e) = e.subscription ∷ e.message ∷ []
keys_in (events.ProcessMessageSubscriptionDeleted key) = key ∷ []
keys_in (events.ProcessMessageSubscriptionDeleting e) = e.subscription ∷ e.keys
keys_in (events.VariableCreated e) = e.scope ∷ []
keys_in (events.VariableUpdated e) = e.scope ∷ []
keys_in (events.VariableDocumentUpdated key) = key ∷ []
keys_in (events.IncidentCreated e) = e.key ∷ e.cell ∷ e.job ∷ []
keys_in (events.IncidentResolved e) = e.key ∷ e.job ∷ []

-- the counter of a key of partition p, and 0 of a key of another one
abbrev pub counter_at : ℕ → ℕ → ℕ
counter_at p key = if key / 2 ^ 51 == p then key % 2 ^ 51 else 0

-- the greatest counter among these keys of partition p, or 0
abbrev pub greatest_among : ℕ → List ℕ → ℕ
greatest_among p [] = 0
greatest_among p (key ∷ keys) = max (counter_at p key) (greatest_among p keys)

-- the greatest counter that the events name in a key of partition p, or 0
abbrev pub greatest_counter : ℕ → List Event → ℕ
greatest_counter p events = greatest_among p (flat_map keys_in events)

-- the key that partition p draws next (Zeebe)
abbrev pub next_key : ℕ → List Event → ℕ
next_key p events = key_of p (greatest_counter p events + 1)

-- the moment of the last batch, or 0
abbrev pub moment_of_last : List Batch → ℕ
moment_of_last [] = 0
moment_of_last (batch ∷ []) = batch.moment
moment_of_last (batch ∷ next ∷ log) = moment_of_last (next ∷ log)

-- What a record is called: its value type and its intent, the key that stands first in it, and the element that it is of (own; modelled on Zeebe's records).
use Rattle.std.specs.Prelude.{ℕ, List, get_or, codes}
use Rattle.zb_model.specs.declared.record.Command.{Command}
use Rattle.zb_model.specs.declared.record.Command.TheVariants as commands
use Rattle.zb_model.specs.declared.record.Event.{Event}
use Rattle.zb_model.specs.declared.record.Event.TheVariants as events
use Rattle.zb_model.specs.declared.record.RejectionKind.{RejectionKind}
use Rattle.zb_model.specs.declared.record.RejectionKind.TheVariants as rejections
use Rattle.zb_views.specs.View.{keys_in}

-- a value type and an intent (own)
abbrev pub Names : Type 0
Names = List ℕ × List ℕ

-- the names of a command (own)
abbrev pub command_names : Command → Names
command_names (commands.DeploymentCreate _) = (codes "DEPLOYMENT", codes "CREATE")
command_names (commands.ProcessInstanceCreationCreate _) = (codes "PROCESS_INSTANCE_CREATION", codes "CREATE")
command_names (commands.ProcessInstanceCancel _) = (codes "PROCESS_INSTANCE", codes "CANCEL")
command_names (commands.VariableDocumentUpdate _) = (codes "VARIABLE_DOCUMENT", codes "UPDATE")
command_names (commands.JobBatchActivate _) = (codes "JOB_BATCH", codes "ACTIVATE")
command_names (commands.JobComplete _) = (codes "JOB", codes "COMPLETE")
command_names (commands.JobFail _) = (codes "JOB", codes "FAIL")
command_names (commands.JobThrowError _) = (codes "JOB", codes "THROW_ERROR")
command_names (commands.JobUpdateRetries _) = (codes "JOB", codes "UPDATE_RETRIES")
command_names (commands.JobTimeOut _) = (codes "JOB", codes "TIME_OUT")
command_names (commands.IncidentResolve _) = (codes "INCIDENT", codes "RESOLVE")
command_names (commands.MessagePublish _) = (codes "MESSAGE", codes "PUBLISH")
command_names (commands.MessageExpire _) = (codes "MESSAGE", codes "EXPIRE")
command_names (commands.TimerTrigger _) = (codes "TIMER", codes "TRIGGER")
command_names (commands.ProcessInstanceMigrationMigrate _) = (codes "PROCESS_INSTANCE_MIGRATION", codes "MIGRATE")
command_names commands.ProcessInstanceBatchContinue = (codes "PROCESS_INSTANCE_BATCH", codes "CONTINUE")
command_names (commands.DeploymentDistribute _) = (codes "DEPLOYMENT", codes "DISTRIBUTE")
command_names (commands.CommandDistributionAcknowledge _) = (codes "COMMAND_DISTRIBUTION", codes "ACKNOWLEDGE")
command_names (commands.MessageSubscriptionCreate _) = (codes "MESSAGE_SUBSCRIPTION", codes "CREATE")
command_names (commands.ProcessMessageSubscriptionCreate _) = (codes "PROCESS_MESSAGE_SUBSCRIPTION", codes "CREATE")
command_names (commands.ProcessMessageSubscriptionCorrelate _) = (codes "PROCESS_MESSAGE_SUBSCRIPTION", codes "CORRELATE")
command_names (commands.MessageSubscriptionCorrelate _) = (codes "MESSAGE_SUBSCRIPTION", codes "CORRELATE")
command_names (commands.MessageSubscriptionReject _) = (codes "MESSAGE_SUBSCRIPTION", codes "REJECT")
command_names (commands.MessageSubscriptionDelete _) = (codes "MESSAGE_SUBSCRIPTION", codes "DELETE")
command_names (commands.ProcessMessageSubscriptionDelete _) = (codes "PROCESS_MESSAGE_SUBSCRIPTION", codes "DELETE")

-- the names of an event (own)
abbrev pub event_names : Event → Names
event_names (events.ProcessCreated _) = (codes "PROCESS", codes "CREATED")
event_names (events.DeploymentCreated _) = (codes "DEPLOYMENT", codes "CREATED")
event_names (events.CommandDistributionDistributing _) = (codes "COMMAND_DISTRIBUTION", codes "DISTRIBUTING")
event_names (events.CommandDistributionAcknowledged _) = (codes "COMMAND_DISTRIBUTION", codes "ACKNOWLEDGED")
event_names (events.CommandDistributionFinished _) = (codes "COMMAND_DISTRIBUTION", codes "FINISHED")
event_names (events.ProcessInstanceCreationCreated _) = (codes "PROCESS_INSTANCE_CREATION", codes "CREATED")
event_names (events.ElementActivating _) = (codes "PROCESS_INSTANCE", codes "ELEMENT_ACTIVATING")
event_names (events.ElementActivated _) = (codes "PROCESS_INSTANCE", codes "ELEMENT_ACTIVATED")
event_names (events.ElementCompleting _) = (codes "PROCESS_INSTANCE", codes "ELEMENT_COMPLETING")
event_names (events.ElementCompleted _) = (codes "PROCESS_INSTANCE", codes "ELEMENT_COMPLETED")
event_names (events.ElementTerminating _) = (codes "PROCESS_INSTANCE", codes "ELEMENT_TERMINATING")
event_names (events.ElementTerminated _) = (codes "PROCESS_INSTANCE", codes "ELEMENT_TERMINATED")
event_names (events.SequenceFlowTaken _) = (codes "PROCESS_INSTANCE", codes "SEQUENCE_FLOW_TAKEN")
event_names (events.ElementMigrated _) = (codes "PROCESS_INSTANCE", codes "ELEMENT_MIGRATED")
event_names (events.ProcessInstanceMigrationMigrated _) = (codes "PROCESS_INSTANCE_MIGRATION", codes "MIGRATED")
event_names (events.JobCreated _) = (codes "JOB", codes "CREATED")
event_names (events.JobActivated _) = (codes "JOB", codes "ACTIVATED")
event_names (events.JobTimedOut _) = (codes "JOB", codes "TIMED_OUT")
event_names (events.JobCompleted _) = (codes "JOB", codes "COMPLETED")
event_names (events.JobCanceled _) = (codes "JOB", codes "CANCELED")
event_names (events.JobFailed _) = (codes "JOB", codes "FAILED")
event_names (events.JobErrorThrown _) = (codes "JOB", codes "ERROR_THROWN")
event_names (events.JobRetriesUpdated _) = (codes "JOB", codes "RETRIES_UPDATED")
event_names (events.JobBatchActivated _) = (codes "JOB_BATCH", codes "ACTIVATED")
event_names (events.TimerCreated _) = (codes "TIMER", codes "CREATED")
event_names (events.TimerTriggered _) = (codes "TIMER", codes "TRIGGERED")
event_names (events.TimerCanceled _) = (codes "TIMER", codes "CANCELED")
event_names (events.ProcessEventTriggered _) = (codes "PROCESS_EVENT", codes "TRIGGERED")
event_names (events.MessagePublished _) = (codes "MESSAGE", codes "PUBLISHED")
event_names (events.MessageExpired _) = (codes "MESSAGE", codes "EXPIRED")
event_names (events.MessageStartEventSubscriptionCorrelated _) = (codes "MESSAGE_START_EVENT_SUBSCRIPTION", codes "CORRELATED")
event_names (events.MessageSubscriptionCreated _) = (codes "MESSAGE_SUBSCRIPTION", codes "CREATED")
event_names (events.MessageSubscriptionCorrelating _) = (codes "MESSAGE_SUBSCRIPTION", codes "CORRELATING")
event_names (events.MessageSubscriptionCorrelated _) = (codes "MESSAGE_SUBSCRIPTION", codes "CORRELATED")
event_names (events.MessageSubscriptionRejected _) = (codes "MESSAGE_SUBSCRIPTION", codes "REJECTED")
event_names (events.MessageSubscriptionDeleted _) = (codes "MESSAGE_SUBSCRIPTION", codes "DELETED")
event_names (events.ProcessMessageSubscriptionCreating _) = (codes "PROCESS_MESSAGE_SUBSCRIPTION", codes "CREATING")
event_names (events.ProcessMessageSubscriptionCreated _) = (codes "PROCESS_MESSAGE_SUBSCRIPTION", codes "CREATED")
event_names (events.ProcessMessageSubscriptionCorrelated _) = (codes "PROCESS_MESSAGE_SUBSCRIPTION", codes "CORRELATED")
event_names (events.ProcessMessageSubscriptionDeleted _) = (codes "PROCESS_MESSAGE_SUBSCRIPTION", codes "DELETED")
event_names (events.ProcessMessageSubscriptionDeleting _) = (codes "PROCESS_MESSAGE_SUBSCRIPTION", codes "DELETING")
event_names (events.VariableCreated _) = (codes "VARIABLE", codes "CREATED")
event_names (events.VariableUpdated _) = (codes "VARIABLE", codes "UPDATED")
event_names (events.VariableDocumentUpdated _) = (codes "VARIABLE_DOCUMENT", codes "UPDATED")
event_names (events.IncidentCreated _) = (codes "INCIDENT", codes "CREATED")
event_names (events.IncidentResolved _) = (codes "INCIDENT", codes "RESOLVED")

-- the first key field of a command, or 0 where it has none (own)
abbrev pub command_key : Command → ℕ
command_key (commands.DeploymentCreate _) = 0
command_key (commands.ProcessInstanceCreationCreate _) = 0
command_key (commands.ProcessInstanceCancel key) = key
command_key (commands.VariableDocumentUpdate c) = c.scope
command_key (commands.JobBatchActivate _) = 0
command_key (commands.JobComplete c) = c.key
command_key (commands.JobFail c) = c.key
command_key (commands.JobThrowError c) = c.key
command_key (commands.JobUpdateRetries c) = c.key
command_key (commands.JobTimeOut key) = key
command_key (commands.IncidentResolve key) = key
command_key (commands.MessagePublish _) = 0
command_key (commands.MessageExpire key) = key
command_key (commands.TimerTrigger key) = key
command_key (commands.ProcessInstanceMigrationMigrate c) = c.key
command_key commands.ProcessInstanceBatchContinue = 0
command_key (commands.DeploymentDistribute c) = c.key
command_key (commands.CommandDistributionAcknowledge c) = c.key
command_key (commands.MessageSubscriptionCreate c) = c.subscription
command_key (commands.ProcessMessageSubscriptionCreate key) = key
command_key (commands.ProcessMessageSubscriptionCorrelate c) = c.subscription
command_key (commands.MessageSubscriptionCorrelate c) = c.subscription
command_key (commands.MessageSubscriptionReject c) = c.subscription
command_key (commands.MessageSubscriptionDelete c) = c.subscription
command_key (commands.ProcessMessageSubscriptionDelete key) = key

-- the first key that an event names (own)
abbrev pub event_key : Event → ℕ
event_key e = get_or (keys_in e) 0 0

-- the element of an event: a node, or the flow that was taken; "-" where it names none (own)
abbrev pub element_of : Event → List ℕ
element_of (events.ElementActivating e) = e.node
element_of (events.SequenceFlowTaken e) = e.flow
element_of (events.ElementMigrated e) = e.node
element_of (events.JobActivated e) = e.node
element_of (events.TimerCreated e) = e.node
element_of (events.ProcessEventTriggered e) = e.node
element_of (events.ProcessMessageSubscriptionCreating e) = e.node
element_of _ = codes "-"

-- the name of a kind of rejections (own; as in Zeebe)
abbrev pub rejection_name : RejectionKind → List ℕ
rejection_name rejections.InvalidArgument = codes "INVALID_ARGUMENT"
rejection_name rejections.NotFound = codes "NOT_FOUND"
rejection_name rejections.AlreadyExists = codes "ALREADY_EXISTS"
rejection_name rejections.InvalidState = codes "INVALID_STATE"

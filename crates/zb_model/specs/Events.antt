-- The table of events: the number of each, and its fields.
use Rattle.zb_format.specs.Kinds.{Kinds, no_kind, one_kind}
use Rattle.zb_format.specs.Layout.{long}
use Rattle.zb_exchange_records.specs.Layouts.{job_created, job_activated, job_failure, job_error, job_retries, job_batch_activated, message_published, message_start_event_subscription_correlated, message_subscription, message_correlation, subscribed_message, process_message_subscription_creating, process_message_subscription_deleting}
use Rattle.zb_instance_records.specs.Layouts.{process_definition, definition_link, command_distribution, element_activating, element_activated, element_completed, sequence_flow_taken, element_migrated, process_instance_migration, timer_created, process_event_triggered, scope_variable, incident_created, incident_resolved}
use Rattle.zb_model.specs.ToldRecords.{ToldRecord, record_told}
use Rattle.zb_model.specs.declared.record.Event.{Event}
use Rattle.zb_model.specs.declared.record.Event.TheVariants as events

-- the events from number 33 on: the number, the variant and the layout of each
unfoldable pub events_from_33 : Kinds Event
events_from_33 =
    one_kind 33 events.MessageSubscriptionCorrelating message_correlation
    (one_kind 34 events.MessageSubscriptionCorrelated subscribed_message
    (one_kind 35 events.MessageSubscriptionRejected subscribed_message
    (one_kind 36 events.MessageSubscriptionDeleted long
    (one_kind 37 events.ProcessMessageSubscriptionCreating process_message_subscription_creating
    (one_kind 38 events.ProcessMessageSubscriptionCreated long
    (one_kind 39 events.ProcessMessageSubscriptionCorrelated subscribed_message
    (one_kind 40 events.ProcessMessageSubscriptionDeleted long
    (one_kind 41 events.ProcessMessageSubscriptionDeleting process_message_subscription_deleting
    (one_kind 42 events.VariableCreated scope_variable
    (one_kind 43 events.VariableUpdated scope_variable
    (one_kind 44 events.VariableDocumentUpdated long
    (one_kind 45 events.IncidentCreated incident_created
    (one_kind 46 events.IncidentResolved incident_resolved no_kind)))))))))))))

-- the events from number 17 on: the number, the variant and the layout of each
unfoldable pub events_from_17 : Kinds Event
events_from_17 =
    one_kind 17 events.JobActivated job_activated
    (one_kind 18 events.JobTimedOut long
    (one_kind 19 events.JobCompleted long
    (one_kind 20 events.JobCanceled long
    (one_kind 21 events.JobFailed job_failure
    (one_kind 22 events.JobErrorThrown job_error
    (one_kind 23 events.JobRetriesUpdated job_retries
    (one_kind 24 events.JobBatchActivated job_batch_activated
    (one_kind 25 events.TimerCreated timer_created
    (one_kind 26 events.TimerTriggered long
    (one_kind 27 events.TimerCanceled long
    (one_kind 28 events.ProcessEventTriggered process_event_triggered
    (one_kind 29 events.MessagePublished message_published
    (one_kind 30 events.MessageExpired long
    (one_kind 31 events.MessageStartEventSubscriptionCorrelated message_start_event_subscription_correlated
    (one_kind 32 events.MessageSubscriptionCreated message_subscription events_from_33)))))))))))))))

-- the events from number 1 on: the number, the variant and the layout of each
unfoldable pub events_from_1 : Kinds Event
events_from_1 =
    one_kind 1 events.ProcessCreated process_definition
    (one_kind 2 events.DeploymentCreated definition_link
    (one_kind 3 events.CommandDistributionDistributing command_distribution
    (one_kind 4 events.CommandDistributionAcknowledged command_distribution
    (one_kind 5 events.CommandDistributionFinished long
    (one_kind 6 events.ProcessInstanceCreationCreated definition_link
    (one_kind 7 events.ElementActivating element_activating
    (one_kind 8 events.ElementActivated element_activated
    (one_kind 9 events.ElementCompleting long
    (one_kind 10 events.ElementCompleted element_completed
    (one_kind 11 events.ElementTerminating long
    (one_kind 12 events.ElementTerminated long
    (one_kind 13 events.SequenceFlowTaken sequence_flow_taken
    (one_kind 14 events.ElementMigrated element_migrated
    (one_kind 15 events.ProcessInstanceMigrationMigrated process_instance_migration
    (one_kind 16 events.JobCreated job_created events_from_17)))))))))))))))

-- each of them as it is told: its number, its variant, and its fields in their layout
abbrev pub event_told : Event → ToldRecord Event
event_told (events.ProcessCreated r) = record_told 1 events.ProcessCreated process_definition r
event_told (events.DeploymentCreated r) = record_told 2 events.DeploymentCreated definition_link r
event_told (events.CommandDistributionDistributing r) = record_told 3 events.CommandDistributionDistributing command_distribution r
event_told (events.CommandDistributionAcknowledged r) = record_told 4 events.CommandDistributionAcknowledged command_distribution r
event_told (events.CommandDistributionFinished k) = record_told 5 events.CommandDistributionFinished long k
event_told (events.ProcessInstanceCreationCreated r) = record_told 6 events.ProcessInstanceCreationCreated definition_link r
event_told (events.ElementActivating r) = record_told 7 events.ElementActivating element_activating r
event_told (events.ElementActivated r) = record_told 8 events.ElementActivated element_activated r
event_told (events.ElementCompleting k) = record_told 9 events.ElementCompleting long k
event_told (events.ElementCompleted r) = record_told 10 events.ElementCompleted element_completed r
event_told (events.ElementTerminating k) = record_told 11 events.ElementTerminating long k
event_told (events.ElementTerminated k) = record_told 12 events.ElementTerminated long k
event_told (events.SequenceFlowTaken r) = record_told 13 events.SequenceFlowTaken sequence_flow_taken r
event_told (events.ElementMigrated r) = record_told 14 events.ElementMigrated element_migrated r
event_told (events.ProcessInstanceMigrationMigrated r) = record_told 15 events.ProcessInstanceMigrationMigrated process_instance_migration r
event_told (events.JobCreated r) = record_told 16 events.JobCreated job_created r
event_told (events.JobActivated r) = record_told 17 events.JobActivated job_activated r
event_told (events.JobTimedOut k) = record_told 18 events.JobTimedOut long k
event_told (events.JobCompleted k) = record_told 19 events.JobCompleted long k
event_told (events.JobCanceled k) = record_told 20 events.JobCanceled long k
event_told (events.JobFailed r) = record_told 21 events.JobFailed job_failure r
event_told (events.JobErrorThrown r) = record_told 22 events.JobErrorThrown job_error r
event_told (events.JobRetriesUpdated r) = record_told 23 events.JobRetriesUpdated job_retries r
event_told (events.JobBatchActivated r) = record_told 24 events.JobBatchActivated job_batch_activated r
event_told (events.TimerCreated r) = record_told 25 events.TimerCreated timer_created r
event_told (events.TimerTriggered k) = record_told 26 events.TimerTriggered long k
event_told (events.TimerCanceled k) = record_told 27 events.TimerCanceled long k
event_told (events.ProcessEventTriggered r) = record_told 28 events.ProcessEventTriggered process_event_triggered r
event_told (events.MessagePublished r) = record_told 29 events.MessagePublished message_published r
event_told (events.MessageExpired k) = record_told 30 events.MessageExpired long k
event_told (events.MessageStartEventSubscriptionCorrelated r) = record_told 31 events.MessageStartEventSubscriptionCorrelated message_start_event_subscription_correlated r
event_told (events.MessageSubscriptionCreated r) = record_told 32 events.MessageSubscriptionCreated message_subscription r
event_told (events.MessageSubscriptionCorrelating r) = record_told 33 events.MessageSubscriptionCorrelating message_correlation r
event_told (events.MessageSubscriptionCorrelated r) = record_told 34 events.MessageSubscriptionCorrelated subscribed_message r
event_told (events.MessageSubscriptionRejected r) = record_told 35 events.MessageSubscriptionRejected subscribed_message r
event_told (events.MessageSubscriptionDeleted k) = record_told 36 events.MessageSubscriptionDeleted long k
event_told (events.ProcessMessageSubscriptionCreating r) = record_told 37 events.ProcessMessageSubscriptionCreating process_message_subscription_creating r
event_told (events.ProcessMessageSubscriptionCreated k) = record_told 38 events.ProcessMessageSubscriptionCreated long k
event_told (events.ProcessMessageSubscriptionCorrelated r) = record_told 39 events.ProcessMessageSubscriptionCorrelated subscribed_message r
event_told (events.ProcessMessageSubscriptionDeleted k) = record_told 40 events.ProcessMessageSubscriptionDeleted long k
event_told (events.ProcessMessageSubscriptionDeleting r) = record_told 41 events.ProcessMessageSubscriptionDeleting process_message_subscription_deleting r
event_told (events.VariableCreated r) = record_told 42 events.VariableCreated scope_variable r
event_told (events.VariableUpdated r) = record_told 43 events.VariableUpdated scope_variable r
event_told (events.VariableDocumentUpdated k) = record_told 44 events.VariableDocumentUpdated long k
event_told (events.IncidentCreated r) = record_told 45 events.IncidentCreated incident_created r
event_told (events.IncidentResolved r) = record_told 46 events.IncidentResolved incident_resolved r

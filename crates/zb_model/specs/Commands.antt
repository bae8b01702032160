-- The table of commands: the number of each, and its fields.
use Rattle.zb_format.specs.Kinds.{Kinds, no_kind, one_kind}
use Rattle.zb_format.specs.Layout.{long, empty}
use Rattle.zb_exchange_records.specs.Layouts.{job_batch_activate, job_complete, job_failure, job_error, job_retries, message_publish, message_subscription, message_correlation, subscribed_message, message_subscription_delete}
use Rattle.zb_instance_records.specs.Layouts.{process_instance_creation_create, variable_document_update, process_instance_migration, process_definition, command_distribution}
use Rattle.zb_process.specs.Layouts.{model}
use Rattle.zb_model.specs.ToldRecords.{ToldRecord, record_told}
use Rattle.zb_model.specs.declared.record.Command.{Command}
use Rattle.zb_model.specs.declared.record.Command.TheVariants as commands

-- the commands from number 14 on: the number, the variant and the layout of each
unfoldable pub commands_from_14 : Kinds Command
commands_from_14 =
    one_kind 14 commands.TimerTrigger long
    (one_kind 15 commands.ProcessInstanceMigrationMigrate process_instance_migration
    (one_kind 16 (λ u. commands.ProcessInstanceBatchContinue) empty
    (one_kind 17 commands.DeploymentDistribute process_definition
    (one_kind 18 commands.CommandDistributionAcknowledge command_distribution
    (one_kind 19 commands.MessageSubscriptionCreate message_subscription
    (one_kind 20 commands.ProcessMessageSubscriptionCreate long
    (one_kind 21 commands.ProcessMessageSubscriptionCorrelate message_correlation
    (one_kind 22 commands.MessageSubscriptionCorrelate subscribed_message
    (one_kind 23 commands.MessageSubscriptionReject subscribed_message
    (one_kind 24 commands.MessageSubscriptionDelete message_subscription_delete
    (one_kind 25 commands.ProcessMessageSubscriptionDelete long no_kind)))))))))))

-- the commands from number 1 on: the number, the variant and the layout of each
unfoldable pub commands_from_1 : Kinds Command
commands_from_1 =
    one_kind 1 commands.DeploymentCreate model
    (one_kind 2 commands.ProcessInstanceCreationCreate process_instance_creation_create
    (one_kind 3 commands.ProcessInstanceCancel long
    (one_kind 4 commands.VariableDocumentUpdate variable_document_update
    (one_kind 5 commands.JobBatchActivate job_batch_activate
    (one_kind 6 commands.JobComplete job_complete
    (one_kind 7 commands.JobFail job_failure
    (one_kind 8 commands.JobThrowError job_error
    (one_kind 9 commands.JobUpdateRetries job_retries
    (one_kind 10 commands.JobTimeOut long
    (one_kind 11 commands.IncidentResolve long
    (one_kind 12 commands.MessagePublish message_publish
    (one_kind 13 commands.MessageExpire long commands_from_14))))))))))))

-- each of them as it is told: its number, its variant, and its fields in their layout
abbrev pub command_told : Command → ToldRecord Command
command_told (commands.DeploymentCreate m) = record_told 1 commands.DeploymentCreate model m
command_told (commands.ProcessInstanceCreationCreate r) = record_told 2 commands.ProcessInstanceCreationCreate process_instance_creation_create r
command_told (commands.ProcessInstanceCancel k) = record_told 3 commands.ProcessInstanceCancel long k
command_told (commands.VariableDocumentUpdate r) = record_told 4 commands.VariableDocumentUpdate variable_document_update r
command_told (commands.JobBatchActivate r) = record_told 5 commands.JobBatchActivate job_batch_activate r
command_told (commands.JobComplete r) = record_told 6 commands.JobComplete job_complete r
command_told (commands.JobFail r) = record_told 7 commands.JobFail job_failure r
command_told (commands.JobThrowError r) = record_told 8 commands.JobThrowError job_error r
command_told (commands.JobUpdateRetries r) = record_told 9 commands.JobUpdateRetries job_retries r
command_told (commands.JobTimeOut k) = record_told 10 commands.JobTimeOut long k
command_told (commands.IncidentResolve k) = record_told 11 commands.IncidentResolve long k
command_told (commands.MessagePublish r) = record_told 12 commands.MessagePublish message_publish r
command_told (commands.MessageExpire k) = record_told 13 commands.MessageExpire long k
command_told (commands.TimerTrigger k) = record_told 14 commands.TimerTrigger long k
command_told (commands.ProcessInstanceMigrationMigrate r) = record_told 15 commands.ProcessInstanceMigrationMigrate process_instance_migration r
command_told commands.ProcessInstanceBatchContinue = record_told 16 (λ u. commands.ProcessInstanceBatchContinue) empty tt
command_told (commands.DeploymentDistribute r) = record_told 17 commands.DeploymentDistribute process_definition r
command_told (commands.CommandDistributionAcknowledge r) = record_told 18 commands.CommandDistributionAcknowledge command_distribution r
command_told (commands.MessageSubscriptionCreate r) = record_told 19 commands.MessageSubscriptionCreate message_subscription r
command_told (commands.ProcessMessageSubscriptionCreate k) = record_told 20 commands.ProcessMessageSubscriptionCreate long k
command_told (commands.ProcessMessageSubscriptionCorrelate r) = record_told 21 commands.ProcessMessageSubscriptionCorrelate message_correlation r
command_told (commands.MessageSubscriptionCorrelate r) = record_told 22 commands.MessageSubscriptionCorrelate subscribed_message r
command_told (commands.MessageSubscriptionReject r) = record_told 23 commands.MessageSubscriptionReject subscribed_message r
command_told (commands.MessageSubscriptionDelete r) = record_told 24 commands.MessageSubscriptionDelete message_subscription_delete r
command_told (commands.ProcessMessageSubscriptionDelete k) = record_told 25 commands.ProcessMessageSubscriptionDelete long k

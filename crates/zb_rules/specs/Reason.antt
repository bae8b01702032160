-- Why a command is rejected. Each command's own rule stands in a module of its name.
use Rattle.std.specs.Prelude.{ℕ, List, Option, None}
use Rattle.zb_model.specs.declared.record.Command.{Command}
use Rattle.zb_model.specs.declared.record.Command.TheVariants as commands
use Rattle.zb_model.specs.declared.record.Event.{Event}
use Rattle.zb_model.specs.declared.record.Rejection.{Rejection}
use Rattle.zb_rules.specs.Publish.{reason_to_publish}
use Rattle.zb_rules.specs.JobReasons.{reason_to_end}
use Rattle.zb_rules.specs.Activate.{reason_to_activate}
use Rattle.zb_rules.specs.Retries.{reason_to_retry}
use Rattle.zb_rules.specs.Trigger.{reason_to_trigger}
use Rattle.zb_rules.specs.TimeOut.{reason_to_time_out}
use Rattle.zb_rules.specs.Deploy.{reason_to_deploy}
use Rattle.zb_rules.specs.Distribute.{reason_to_distribute}
use Rattle.zb_rules.specs.Acknowledge.{reason_to_acknowledge}
use Rattle.zb_rules.specs.Create.{reason_to_create}
use Rattle.zb_rules.specs.Cancel.{reason_to_cancel}
use Rattle.zb_rules.specs.Update.{reason_to_update}
use Rattle.zb_rules.specs.Resolve.{reason_to_resolve}
use Rattle.zb_rules.specs.Expire.{reason_to_expire}
use Rattle.zb_rules.specs.Continue.{reason_to_continue}
use Rattle.zb_rules.specs.Subscribe.{reason_to_open, reason_to_take, reason_to_delete}
use Rattle.zb_rules.specs.Receive.{reason_to_confirm, reason_to_receive, reason_to_forget}

-- the rejection of a command by the events before it and the moment, if there is a reason for one
abbrev pub reason_for : List Event → ℕ → Command → Option Rejection
reason_for before moment (commands.DeploymentCreate m) = reason_to_deploy m
reason_for before moment (commands.ProcessInstanceCreationCreate c) = reason_to_create before c
reason_for before moment (commands.ProcessInstanceCancel key) = reason_to_cancel before key
reason_for before moment (commands.VariableDocumentUpdate c) = reason_to_update before c.scope
reason_for before moment (commands.JobBatchActivate c) = reason_to_activate c
reason_for before moment (commands.JobComplete c) = reason_to_end before c.key
reason_for before moment (commands.JobFail c) = reason_to_end before c.key
reason_for before moment (commands.JobThrowError c) = reason_to_end before c.key
reason_for before moment (commands.JobUpdateRetries c) = reason_to_retry before c
reason_for before moment (commands.JobTimeOut key) = reason_to_time_out before moment key
reason_for before moment (commands.TimerTrigger key) = reason_to_trigger before moment key
reason_for before moment (commands.IncidentResolve key) = reason_to_resolve before key
reason_for before moment (commands.MessagePublish c) = reason_to_publish before c
reason_for before moment (commands.MessageExpire key) = reason_to_expire before moment key
reason_for before moment commands.ProcessInstanceBatchContinue = reason_to_continue before
reason_for before moment (commands.DeploymentDistribute c) = reason_to_distribute before c
reason_for before moment (commands.CommandDistributionAcknowledge c) = reason_to_acknowledge before c
reason_for before moment (commands.MessageSubscriptionCreate c) = reason_to_open before c.subscription
reason_for before moment (commands.MessageSubscriptionCorrelate c) = reason_to_take before c
reason_for before moment (commands.MessageSubscriptionReject c) = reason_to_take before c
reason_for before moment (commands.MessageSubscriptionDelete c) = reason_to_delete before c.subscription
reason_for before moment (commands.ProcessMessageSubscriptionCreate key) = reason_to_confirm before key
reason_for before moment (commands.ProcessMessageSubscriptionCorrelate c) = reason_to_receive before c
reason_for before moment (commands.ProcessMessageSubscriptionDelete key) = reason_to_forget before key
reason_for before moment _ = None

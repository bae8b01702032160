-- What each command makes of the events before it. Each command's own rule stands in a module of its name.
use Rattle.std.specs.Prelude.{ℕ, ◌+◌, List, [], length, Option, Some, None, option_map}
use Rattle.zb_model.specs.declared.record.Command.{Command}
use Rattle.zb_model.specs.declared.record.Command.TheVariants as commands
use Rattle.zb_model.specs.declared.record.Event.{Event}
use Rattle.zb_rules.specs.Publish.{published}
use Rattle.zb_rules.specs.Making.{Making}
use Rattle.zb_rules.specs.Activate.{activated}
use Rattle.zb_rules.specs.Complete.{completed}
use Rattle.zb_rules.specs.Fail.{failed}
use Rattle.zb_rules.specs.Throw.{thrown}
use Rattle.zb_rules.specs.Retries.{retried}
use Rattle.zb_rules.specs.Trigger.{triggered}
use Rattle.zb_rules.specs.TimeOut.{timed_out}
use Rattle.zb_rules.specs.Deploy.{deployed}
use Rattle.zb_rules.specs.Distribute.{distributed}
use Rattle.zb_rules.specs.Acknowledge.{acknowledged}
use Rattle.zb_rules.specs.Create.{created}
use Rattle.zb_rules.specs.Cancel.{cancelled}
use Rattle.zb_rules.specs.Update.{updated}
use Rattle.zb_rules.specs.Resolve.{resolved}
use Rattle.zb_rules.specs.Expire.{expired}
use Rattle.zb_rules.specs.Starts.{starters}
use Rattle.zb_rules.specs.Subscribe.{opened, taken, turned_away, unsubscribed}
use Rattle.zb_rules.specs.Receive.{confirmed, received, forgotten}

-- a command that is run so far
abbrev pub IsSupported : Command → Type 0
IsSupported (commands.DeploymentCreate m) = Unit {0}
IsSupported (commands.ProcessInstanceCreationCreate c) = Unit {0}
IsSupported (commands.ProcessInstanceCancel key) = Unit {0}
IsSupported (commands.VariableDocumentUpdate c) = Unit {0}
IsSupported (commands.JobBatchActivate c) = Unit {0}
IsSupported (commands.JobComplete c) = Unit {0}
IsSupported (commands.JobFail c) = Unit {0}
IsSupported (commands.JobThrowError c) = Unit {0}
IsSupported (commands.JobUpdateRetries c) = Unit {0}
IsSupported (commands.JobTimeOut key) = Unit {0}
IsSupported (commands.TimerTrigger key) = Unit {0}
IsSupported (commands.IncidentResolve key) = Unit {0}
IsSupported (commands.MessagePublish c) = Unit {0}
IsSupported (commands.MessageExpire key) = Unit {0}
IsSupported commands.ProcessInstanceBatchContinue = Unit {0}
IsSupported (commands.DeploymentDistribute c) = Unit {0}
IsSupported (commands.CommandDistributionAcknowledge c) = Unit {0}
IsSupported (commands.MessageSubscriptionCreate c) = Unit {0}
IsSupported (commands.MessageSubscriptionCorrelate c) = Unit {0}
IsSupported (commands.MessageSubscriptionReject c) = Unit {0}
IsSupported (commands.MessageSubscriptionDelete c) = Unit {0}
IsSupported (commands.ProcessMessageSubscriptionCreate key) = Unit {0}
IsSupported (commands.ProcessMessageSubscriptionCorrelate c) = Unit {0}
IsSupported (commands.ProcessMessageSubscriptionDelete key) = Unit {0}
IsSupported _ = ⊥

-- what a command makes of the events before it, at a moment of partition p of n; None of a command that isn't run
abbrev pub own : (p n moment : ℕ) → Command → Option Making
own p n moment (commands.DeploymentCreate m) = Some (deployed p n m)
own p n moment (commands.ProcessInstanceCreationCreate c) = Some (created p c)
own p n moment (commands.ProcessInstanceCancel key) = Some (cancelled p moment key)
own p n moment (commands.VariableDocumentUpdate c) = Some (updated c)
own p n moment (commands.JobBatchActivate c) = Some (activated p moment c)
own p n moment (commands.JobComplete c) = Some (completed c)
own p n moment (commands.JobFail c) = Some (failed p c)
own p n moment (commands.JobThrowError c) = Some (thrown c)
own p n moment (commands.JobUpdateRetries c) = Some (retried c)
own p n moment (commands.JobTimeOut key) = Some (timed_out key)
own p n moment (commands.TimerTrigger key) = Some (triggered p moment key)
own p n moment (commands.IncidentResolve key) = Some (resolved key)
own p n moment (commands.MessagePublish c) = Some (published p moment c)
own p n moment (commands.MessageExpire key) = Some (expired key)
own p n moment commands.ProcessInstanceBatchContinue = Some (λ before. [])
own p n moment (commands.DeploymentDistribute c) = Some (distributed c)
own p n moment (commands.CommandDistributionAcknowledge c) = Some (acknowledged c)
own p n moment (commands.MessageSubscriptionCreate c) = Some (opened c)
own p n moment (commands.MessageSubscriptionCorrelate c) = Some (taken c)
own p n moment (commands.MessageSubscriptionReject c) = Some (turned_away c)
own p n moment (commands.MessageSubscriptionDelete c) = Some (unsubscribed c)
own p n moment (commands.ProcessMessageSubscriptionCreate key) = Some (confirmed key)
own p n moment (commands.ProcessMessageSubscriptionCorrelate c) = Some (received p moment c)
own p n moment (commands.ProcessMessageSubscriptionDelete key) = Some (forgotten key)
own p n moment _ = None

-- the events that it makes of them
abbrev pub own_events : (p n : ℕ) → List Event → ℕ → Command → Option (List Event)
own_events p n before moment command = option_map (λ make. make before) (own p n moment command)

-- how many keys a command draws at most for its own events, behind these: a publish one for each process that its message may start, too
abbrev pub keys_for : List Event → Command → ℕ
keys_for before (commands.DeploymentCreate m) = 2
keys_for before (commands.ProcessInstanceCreationCreate c) = 1
keys_for before (commands.JobBatchActivate c) = 1
keys_for before (commands.JobFail c) = 1
keys_for before (commands.MessagePublish c) = 1 + length (starters c.name before)
keys_for before _ = 0

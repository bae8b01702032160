-- Which kinds of events a step may have: those to which its command may lead, and those that may come of what is forced behind them.
use Rattle.std.specs.Prelude.{◌≡◌, ◌==◌, List, [], ◌∷◌, ◌++◌, Bool, true, false, Some}
use Rattle.zb_model.specs.declared.record.Command.{Command}
use Rattle.zb_model.specs.declared.record.Command.TheVariants as commands
use Rattle.zb_model.specs.declared.record.Event.{Event}
use Rattle.zb_model.specs.declared.record.Event.TheVariants as events
use Rattle.zb_views.specs.declared.process_subscription.ProcessSubscription.{ProcessSubscription}
use Rattle.zb_views.specs.ProcessSubscriptions.{process_subscription_at}
use Rattle.zb_rules.specs.Behind.{closing_of}
use Rattle.zb_rules.specs.JobEvents.{tells_of_job}

-- an event of this kind may stand in front of the event of a move, or behind it (Zeebe, the records)
abbrev pub comes_beside : Event → Bool
comes_beside (events.VariableCreated e) = true
comes_beside (events.VariableUpdated e) = true
comes_beside (events.JobCreated e) = true
comes_beside (events.JobCanceled key) = true
comes_beside (events.TimerCreated e) = true
comes_beside (events.TimerCanceled key) = true
comes_beside (events.ProcessMessageSubscriptionCreating e) = true
comes_beside (events.ProcessMessageSubscriptionDeleting e) = true
comes_beside (events.IncidentResolved e) = true
comes_beside (events.ElementTerminating key) = true
comes_beside (events.MessageStartEventSubscriptionCorrelated e) = true
comes_beside (events.ElementActivating e) = true
comes_beside e = false

-- an event of this kind may come of what is forced: it is that of a move, or stands beside one (BPMN 2.0.2, 13; Zeebe, the records)
abbrev pub may_follow : Event → Bool
may_follow (events.ElementActivating e) = true
may_follow (events.ElementActivated e) = true
may_follow (events.ElementCompleting key) = true
may_follow (events.ElementCompleted e) = true
may_follow (events.ElementTerminated key) = true
may_follow (events.SequenceFlowTaken e) = true
may_follow (events.ProcessEventTriggered e) = true
may_follow (events.IncidentCreated e) = true
may_follow e = comes_beside e

-- a command may lead to an event of this kind as its own; the timer that it triggers is the one that it names (Zeebe, the records)
abbrev pub may_lead_to : Command → Event → Bool
may_lead_to (commands.DeploymentCreate m) (events.ProcessCreated e) = true
may_lead_to (commands.DeploymentCreate m) (events.DeploymentCreated e) = true
may_lead_to (commands.DeploymentCreate m) (events.CommandDistributionDistributing e) = true
may_lead_to (commands.DeploymentDistribute c) (events.ProcessCreated e) = true
may_lead_to (commands.CommandDistributionAcknowledge c) (events.CommandDistributionAcknowledged e) = true
may_lead_to (commands.CommandDistributionAcknowledge c) (events.CommandDistributionFinished key) = true
may_lead_to (commands.ProcessInstanceCreationCreate c) (events.ProcessInstanceCreationCreated e) = true
may_lead_to (commands.ProcessInstanceCreationCreate c) (events.ElementActivating e) = true
may_lead_to (commands.VariableDocumentUpdate c) (events.VariableDocumentUpdated key) = true
may_lead_to (commands.JobBatchActivate c) (events.JobActivated e) = true
may_lead_to (commands.JobBatchActivate c) (events.JobBatchActivated e) = true
may_lead_to (commands.JobComplete c) (events.JobCompleted key) = true
may_lead_to (commands.JobFail c) (events.JobFailed e) = true
may_lead_to (commands.JobFail c) (events.IncidentCreated e) = tells_of_job e.kind
may_lead_to (commands.JobThrowError c) (events.JobErrorThrown e) = true
may_lead_to (commands.JobUpdateRetries c) (events.JobRetriesUpdated e) = true
may_lead_to (commands.JobTimeOut key) (events.JobTimedOut job) = true
may_lead_to (commands.MessagePublish c) (events.MessagePublished m) = true
may_lead_to (commands.MessagePublish c) (events.MessageExpired key) = true
may_lead_to (commands.MessagePublish c) (events.MessageSubscriptionCorrelating e) = true
may_lead_to (commands.MessageExpire key) (events.MessageExpired message) = true
may_lead_to (commands.MessageSubscriptionCreate c) (events.MessageSubscriptionCreated s) = true
may_lead_to (commands.MessageSubscriptionCreate c) (events.MessageSubscriptionCorrelating e) = true
may_lead_to (commands.MessageSubscriptionCorrelate c) (events.MessageSubscriptionCorrelated e) = true
may_lead_to (commands.MessageSubscriptionCorrelate c) (events.MessageSubscriptionCorrelating e) = true
may_lead_to (commands.MessageSubscriptionReject c) (events.MessageSubscriptionRejected e) = true
may_lead_to (commands.MessageSubscriptionReject c) (events.MessageSubscriptionCorrelating e) = true
may_lead_to (commands.MessageSubscriptionDelete c) (events.MessageSubscriptionRejected e) = true
may_lead_to (commands.MessageSubscriptionDelete c) (events.MessageSubscriptionDeleted key) = true
may_lead_to (commands.MessageSubscriptionDelete c) (events.MessageSubscriptionCorrelating e) = true
may_lead_to (commands.ProcessMessageSubscriptionCreate key) (events.ProcessMessageSubscriptionCreated subscription) = true
may_lead_to (commands.ProcessMessageSubscriptionCorrelate c) (events.ProcessMessageSubscriptionCorrelated e) = true
may_lead_to (commands.ProcessMessageSubscriptionCorrelate c) (events.ProcessMessageSubscriptionDeleting e) = true
may_lead_to (commands.ProcessMessageSubscriptionCorrelate c) (events.ProcessEventTriggered e) = true
may_lead_to (commands.ProcessMessageSubscriptionDelete key) (events.ProcessMessageSubscriptionDeleted subscription) = true
may_lead_to (commands.TimerTrigger key) (events.TimerTriggered timer) = timer == key
may_lead_to (commands.TimerTrigger key) (events.ProcessEventTriggered e) = true
may_lead_to command e = false

-- a subscription that begins to be deleted behind these events does so with the messages that it was given (own)
abbrev pub Carries : List Event → Event → Type 0
Carries before (events.ProcessMessageSubscriptionDeleting e) = (s : ProcessSubscription) × (process_subscription_at e.subscription before ≡ Some s) × (events.ProcessMessageSubscriptionDeleting e ≡ closing_of s)
Carries before e = Unit {0}

-- each of these events that begins to delete one does, behind those before it
abbrev pub AllCarry : (before es : List Event) → Type 0
AllCarry before [] = Unit {0}
AllCarry before (e ∷ es) = Carries before e × AllCarry (before ++ e ∷ []) es

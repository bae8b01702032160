-- What events and commands say of messages, in the words of zb_once.
use Rattle.std.specs.Prelude.{map, if◌then◌else◌, Option, Some, None}
use Rattle.std.specs.Str.{bytes_eq}
use Rattle.zb_exchange_records.specs.declared.subscription.MessageSubscription.{MessageSubscription}
use Rattle.zb_exchange_records.specs.declared.subscription.MessageCorrelation.{MessageCorrelation}
use Rattle.zb_model.specs.declared.record.Command.{Command}
use Rattle.zb_model.specs.declared.record.Command.TheVariants as commands
use Rattle.zb_model.specs.declared.record.Event.{Event}
use Rattle.zb_model.specs.declared.record.Event.TheVariants as events
use Rattle.zb_model.specs.declared.record.Outcome.{Outcome}
use Rattle.zb_model.specs.declared.record.Outcome.TheVariants as outcomes
use Rattle.zb_model.specs.declared.record.Rejection.{Rejection}
use Rattle.zb_views.specs.View.{events_in}
use Rattle.zb_record.specs.Answers.{was_correlated, no_subscription, being_deleted}
use Rattle.zb_record.specs.Sendings.{opening_of}
use Rattle.zb_once.specs.Tellings.{Terms, Telling, Asking, Refusal}
use Rattle.zb_once.specs.Tellings.Telling.{Other, Defined, Distributing, Published, Expired, Started, Opened, Correlating, Correlated, Rejected, Deleted, Opens, Kept, Closing, Gone}
use Rattle.zb_once.specs.Tellings.Asking.{Else, Distribute, Create, IsCreated, Correlate, WasKept, Reject, Delete, IsDeleted}
use Rattle.zb_once.specs.Tellings.Refusal.{NoSubscription, WasCorrelated, BeingDeleted, AnyOther}
use Rattle.zb_once.specs.History.{Deed}
use Rattle.zb_world.specs.declared.entry.Entry.{Entry}

-- what a subscription is opened with (Zeebe, the records)
abbrev pub terms_from : MessageSubscription → Terms
terms_from s = record { name = s.name; correlation_key = s.correlation_key; process = s.process; cancel = s.cancel }

-- what an event tells of messages (Zeebe, the records)
abbrev pub tells : Event → Telling
tells (events.ProcessCreated e) = Defined e.key e.model.process
tells (events.CommandDistributionDistributing e) = Distributing e.key e.partition
tells (events.MessagePublished e) = Published e.key
tells (events.MessageExpired key) = Expired key
tells (events.MessageStartEventSubscriptionCorrelated e) = Started e.message e.definition
tells (events.MessageSubscriptionCreated e) = Opened e.subscription (terms_from e)
tells (events.MessageSubscriptionCorrelating e) = Correlating e.subscription e.message
tells (events.MessageSubscriptionCorrelated e) = Correlated e.subscription e.message
tells (events.MessageSubscriptionRejected e) = Rejected e.subscription e.message
tells (events.MessageSubscriptionDeleted key) = Deleted key
tells (events.ProcessMessageSubscriptionCreating e) = Opens e.subscription (terms_from (opening_of e))
tells (events.ProcessMessageSubscriptionCorrelated e) = Kept e.subscription e.message
tells (events.ProcessMessageSubscriptionDeleted key) = Gone key
tells (events.ProcessMessageSubscriptionDeleting e) = Closing e.subscription e.correlation_key e.keys
tells _ = Other

-- what a command asks of messages (Zeebe, the records)
abbrev pub asks : Command → Asking
asks (commands.DeploymentDistribute c) = Distribute c.key c.model.process
asks (commands.MessageSubscriptionCreate c) = Create c.subscription (terms_from c)
asks (commands.ProcessMessageSubscriptionCreate key) = IsCreated key
asks (commands.ProcessMessageSubscriptionCorrelate c) = Correlate c.subscription c.message
asks (commands.MessageSubscriptionCorrelate c) = WasKept c.subscription c.message
asks (commands.MessageSubscriptionReject c) = Reject c.subscription c.message
asks (commands.MessageSubscriptionDelete c) = Delete c.subscription c.keys
asks (commands.ProcessMessageSubscriptionDelete key) = IsDeleted key
asks _ = Else

-- why a message isn't taken at its subscription, by the text of the rejection (own)
abbrev pub turned_away_by : MessageCorrelation → Rejection → Refusal
turned_away_by c r =
    if bytes_eq r.reason (was_correlated c.message) then WasCorrelated
    else if bytes_eq r.reason (no_subscription c.subscription) then NoSubscription
    else if bytes_eq r.reason (being_deleted c.subscription) then BeingDeleted
    else AnyOther

-- why a command is rejected, as far as it matters to messages (own)
abbrev pub refused_by : Command → Rejection → Refusal
refused_by (commands.ProcessMessageSubscriptionCorrelate c) r = turned_away_by c r
refused_by command r = AnyOther

-- why a command of this outcome was rejected, if it was (own)
abbrev pub refusal_by : Command → Outcome → Option Refusal
refusal_by command (outcomes.Accepted es) = None
refusal_by command (outcomes.Rejected r) = Some (refused_by command r)

-- what an entry does to messages (own)
abbrev pub deed_of : Entry → Deed
deed_of entry = record {
  partition = entry.partition;
  begin = entry.batch.begin;
  asked = asks entry.batch.command;
  refusal = refusal_by entry.batch.command entry.batch.outcome;
  told = map tells (events_in entry.batch.outcome);
}

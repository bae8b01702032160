-- What a partition sends again and again until an event ends it: queries over the events of a log.
use Rattle.std.specs.Prelude.{ℕ, ◌==◌, List, Bool, false, ◌&&◌, Option, Some, None}
use Rattle.std.specs.List.{filter_map}
use Rattle.zb_exchange_records.specs.declared.subscription.MessageSubscription.{MessageSubscription}
use Rattle.zb_exchange_records.specs.declared.subscription.MessageCorrelation.{MessageCorrelation}
use Rattle.zb_exchange_records.specs.declared.subscription.SubscribedMessage.{SubscribedMessage}
use Rattle.zb_exchange_records.specs.declared.subscription.ProcessMessageSubscriptionCreating.{ProcessMessageSubscriptionCreating}
use Rattle.zb_model.specs.declared.record.Event.{Event}
use Rattle.zb_model.specs.declared.record.Event.TheVariants as events
use Rattle.zb_views.specs.Standing.{Sort, standing}
use Rattle.zb_views.specs.declared.distribution.Distribution.{Distribution}
use Rattle.zb_views.specs.Distributions.{distribution_to, ends_distribution}
use Rattle.zb_record.specs.declared.sending.Sending.{Sending}
use Rattle.zb_record.specs.declared.sending.Sending.TheVariants as sending

-- a subscription as it is opened at the home of its messages
abbrev pub opening_of : ProcessMessageSubscriptionCreating → MessageSubscription
opening_of e = record { subscription = e.subscription; name = e.name; correlation_key = e.correlation_key; process = e.process; cancel = e.cancel }

-- what an event begins to send (Zeebe, the records)
abbrev pub sending_told : Event → Option Sending
sending_told (events.CommandDistributionDistributing e) = Some (sending.Definition (distribution_to e.key e.partition))
sending_told (events.ProcessMessageSubscriptionCreating e) = Some (sending.Opening (opening_of e))
sending_told (events.MessageSubscriptionCorrelating e) = Some (sending.Correlating e)
sending_told (events.ProcessMessageSubscriptionDeleting e) = Some (sending.Closing e)
sending_told _ = None

-- the key of the definition or of the subscription that a sending is of (own)
abbrev pub key_of_sending : Sending → ℕ
key_of_sending (sending.Definition d) = d.definition
key_of_sending (sending.Opening s) = s.subscription
key_of_sending (sending.Correlating c) = c.subscription
key_of_sending (sending.Closing s) = s.subscription

-- an event ends the opening of a subscription: the home of its messages has it, or it is closed (Zeebe, the records)
abbrev pub ends_opening : ℕ → Event → Bool
ends_opening subscription (events.ProcessMessageSubscriptionCreated key) = key == subscription
ends_opening subscription (events.ProcessMessageSubscriptionDeleting e) = e.subscription == subscription
ends_opening subscription _ = false

-- what is told is of this message for this subscription
abbrev pub is_told_of : MessageCorrelation → SubscribedMessage → Bool
is_told_of c told = (told.subscription == c.subscription) && (told.message == c.message)

-- an event ends a correlation: the message was taken or turned away, or its subscription is gone (Zeebe, the records)
abbrev pub ends_correlating : MessageCorrelation → Event → Bool
ends_correlating c (events.MessageSubscriptionCorrelated e) = is_told_of c e
ends_correlating c (events.MessageSubscriptionRejected e) = is_told_of c e
ends_correlating c (events.MessageSubscriptionDeleted key) = key == c.subscription
ends_correlating c _ = false

-- an event ends the closing of a subscription: it is gone (Zeebe, the records)
abbrev pub ends_closing : ℕ → Event → Bool
ends_closing subscription (events.ProcessMessageSubscriptionDeleted key) = key == subscription
ends_closing subscription _ = false

-- an event ends what is sent
abbrev pub ends_sending : Event → Sending → Bool
ends_sending e (sending.Definition d) = ends_distribution d e
ends_sending e (sending.Opening s) = ends_opening s.subscription e
ends_sending e (sending.Correlating c) = ends_correlating c e
ends_sending e (sending.Closing s) = ends_closing s.subscription e

-- what is sent is begun and ended, and stays as it was
abbrev pub sending_sort : Sort Sending
sending_sort = record {
  told = λ before e. sending_told e;
  ends = λ before e s. ends_sending e s;
  says = λ before e s. s;
}

-- what is sent and no event after has ended, in the order in which it began
abbrev pub sendings : List Event → List Sending
sendings es = standing sending_sort es

-- the distribution that is sent, if it is one
abbrev pub distribution_sent : Sending → Option Distribution
distribution_sent (sending.Definition d) = Some d
distribution_sent _ = None

-- the distributions among what is sent
abbrev pub distributions_sent : List Sending → List Distribution
distributions_sent ss = filter_map distribution_sent ss

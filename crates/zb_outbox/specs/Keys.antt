-- What names what is sent: the events that end it, and the questions.
use Rattle.std.specs.Prelude.{ℕ, ◌==◌, Bool, false, Option, Some, None}
use Rattle.std.specs.Option.{option_map_or}
use Rattle.zb_model.specs.declared.record.Event.{Event}
use Rattle.zb_model.specs.declared.record.Event.TheVariants as events
use Rattle.zb_views.specs.Distributions.{is_that}
use Rattle.zb_record.specs.declared.sending.Sending.{Sending}
use Rattle.zb_record.specs.Sendings.{distribution_sent}

-- the key that an event names, if it may end what is sent (own)
abbrev pub ending_key : Event → Option ℕ
ending_key (events.CommandDistributionAcknowledged e) = Some e.key
ending_key (events.ProcessMessageSubscriptionCreated key) = Some key
ending_key (events.ProcessMessageSubscriptionDeleted key) = Some key
ending_key (events.MessageSubscriptionDeleted key) = Some key
ending_key (events.ProcessMessageSubscriptionDeleting e) = Some e.subscription
ending_key (events.MessageSubscriptionCorrelated e) = Some e.subscription
ending_key (events.MessageSubscriptionRejected e) = Some e.subscription
ending_key _ = None

-- a sending is of this definition (own)
abbrev pub is_of_definition : ℕ → Sending → Bool
is_of_definition definition s = option_map_or (λ d. d.definition == definition) (distribution_sent s) false

-- and to this partition (own)
abbrev pub is_to_partition : (definition partition : ℕ) → Sending → Bool
is_to_partition definition partition s = option_map_or (is_that definition partition) (distribution_sent s) false

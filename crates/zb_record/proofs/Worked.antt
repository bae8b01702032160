-- The packets of a deployment, of a subscription and of a message among three partitions, worked out by hand.
use Rattle.std.proofs.Common.{◌≡◌, ℕ, List, [], ◌∷◌, ◌++◌, true, refl}
use Rattle.std.specs.Prelude.{codes}
use Rattle.std.specs.Fmt.{digits}
use Rattle.zb_process.specs.declared.model.Model.{Model}
use Rattle.zb_model.specs.declared.record.Batch.{Batch}
use Rattle.zb_model.specs.declared.record.Command.{Command}
use Rattle.zb_model.specs.declared.record.Command.TheVariants as commands
use Rattle.zb_model.specs.declared.record.Event.{Event}
use Rattle.zb_model.specs.declared.record.Event.TheVariants as events
use Rattle.zb_model.specs.declared.record.Outcome.{Outcome}
use Rattle.zb_model.specs.declared.record.Outcome.TheVariants as outcomes
use Rattle.zb_model.specs.declared.record.Packet.{Packet}
use Rattle.zb_model.specs.declared.record.RejectionKind.{RejectionKind}
use Rattle.zb_model.specs.declared.record.RejectionKind.TheVariants as kinds
use Rattle.zb_record.specs.Partitions.{partition_of_key}
use Rattle.zb_record.specs.Packets.{outbox_of, sent_by}

abbrev model : Model
model = record { process = codes "p"; tag = []; nodes = []; flows = [] }

-- the definition, and that it sets out for partitions 2 and 3
abbrev made : Event
made = events.ProcessCreated (record { key = 2251799813685249; version = 1; model = model })

abbrev set_out : ℕ → Event
set_out p = events.CommandDistributionDistributing (record { key = 2251799813685249; partition = p })

abbrev arrived : ℕ → Event
arrived p = events.CommandDistributionAcknowledged (record { key = 2251799813685249; partition = p })

abbrev deployed : List Event
deployed = made ∷ events.DeploymentCreated (record { key = 2251799813685250; definition = 2251799813685249 }) ∷ set_out 2 ∷ set_out 3 ∷ []

abbrev batch : Command → Outcome → Batch
batch command outcome = record { moment = 0; begin = 0; command = command; outcome = outcome }

-- what a partition is sent
abbrev to_partition : ℕ → Packet
to_partition p = record { from = 1; to = p; command = commands.DeploymentDistribute (record { key = 2251799813685249; version = 1; model = model }) }

-- and what it answers
abbrev answer_from : ℕ → Packet
answer_from p = record { from = p; to = 1; command = commands.CommandDistributionAcknowledge (record { key = 2251799813685249; partition = p }) }

deployment_sends : sent_by 1 3 (batch (commands.DeploymentCreate model) (outcomes.Accepted deployed)) ≡ to_partition 2 ∷ to_partition 3 ∷ []
deployment_sends = refl

-- one that says nothing of its definition sends nothing
nothing_to_send : sent_by 1 3 (batch (commands.DeploymentCreate model) (outcomes.Accepted (set_out 2 ∷ []))) ≡ []
nothing_to_send = refl

-- nor does one whose definition comes behind it
made_too_late : sent_by 1 3 (batch (commands.DeploymentCreate model) (outcomes.Accepted (set_out 2 ∷ made ∷ []))) ≡ []
made_too_late = refl

-- a packet that was taken is answered, and so is one that was refused
taken_is_answered : sent_by 2 3 (batch (to_partition 2).command (outcomes.Accepted (made ∷ []))) ≡ answer_from 2 ∷ []
taken_is_answered = refl

refused_is_answered : sent_by 2 3 (batch (to_partition 2).command (outcomes.Rejected (record { kind = kinds.AlreadyExists; reason = codes "definition 2251799813685249 is there" }))) ≡ answer_from 2 ∷ []
refused_is_answered = refl

-- an answer is not answered
answer_is_last : sent_by 1 3 (batch (answer_from 2).command (outcomes.Accepted (arrived 2 ∷ []))) ≡ []
answer_is_last = refl

-- what was sent stays in the outbox until its answer was taken
both_kept : outbox_of 1 3 deployed ≡ to_partition 2 ∷ to_partition 3 ∷ []
both_kept = refl

one_kept : outbox_of 1 3 (deployed ++ arrived 2 ∷ []) ≡ to_partition 3 ∷ []
one_kept = refl

none_kept : outbox_of 1 3 (deployed ++ arrived 3 ∷ arrived 2 ∷ events.CommandDistributionFinished 2251799813685249 ∷ []) ≡ []
none_kept = refl

-- a partition that there isn't counts as the first one
fourth_is_first : outbox_of 1 3 (made ∷ set_out 4 ∷ []) ≡ to_partition 1 ∷ []
fourth_is_first = refl

no_partition : partition_of_key 3 7 ≡ 1
no_partition = refl

second_partition : partition_of_key 3 4503599627370497 ≡ 2
second_partition = refl

-- a subscription of partition 1, for an element that waits for messages whose correlation key is "b": these live at partition 3
abbrev opening : Event
opening = events.ProcessMessageSubscriptionCreating (record { subscription = 2251799813685255; cell = 2251799813685254; node = codes "wait"; name = codes "paid"; correlation_key = codes "b"; process = codes "p"; cancel = true })

abbrev opened : ℕ → Event
opened key = events.ProcessMessageSubscriptionCreated key

abbrev closing : Event
closing = events.ProcessMessageSubscriptionDeleting (record { subscription = 2251799813685255; correlation_key = codes "b"; keys = 6755399441055749 ∷ [] })

-- what its home is sent, as it is opened and as it is closed
abbrev to_open : Packet
to_open = record { from = 1; to = 3; command = commands.MessageSubscriptionCreate (record { subscription = 2251799813685255; name = codes "paid"; correlation_key = codes "b"; process = codes "p"; cancel = true }) }

abbrev to_close : Packet
to_close = record { from = 1; to = 3; command = commands.MessageSubscriptionDelete (record { subscription = 2251799813685255; keys = 6755399441055749 ∷ [] }) }

subscription_is_sent : sent_by 1 3 (batch (commands.JobComplete (record { key = 2251799813685253; variables = [] })) (outcomes.Accepted (opening ∷ []))) ≡ to_open ∷ []
subscription_is_sent = refl

-- it is sent until it is there
still_to_open : outbox_of 1 3 (opening ∷ opened 2251799813685256 ∷ []) ≡ to_open ∷ []
still_to_open = refl

open_now : outbox_of 1 3 (opening ∷ opened 2251799813685255 ∷ []) ≡ []
open_now = refl

-- or is closed: then that is sent, until it is gone
closed_instead : outbox_of 1 3 (opening ∷ closing ∷ []) ≡ to_close ∷ []
closed_instead = refl

still_to_close : outbox_of 1 3 (opening ∷ opened 2251799813685255 ∷ closing ∷ events.ProcessMessageSubscriptionDeleted 2251799813685256 ∷ []) ≡ to_close ∷ []
still_to_close = refl

closed_now : outbox_of 1 3 (opening ∷ opened 2251799813685255 ∷ closing ∷ events.ProcessMessageSubscriptionDeleted 2251799813685255 ∷ []) ≡ []
closed_now = refl

-- its home says that it is there, and that it is gone
opening_is_answered : sent_by 3 3 (batch to_open.command (outcomes.Accepted [])) ≡ record { from = 3; to = 1; command = commands.ProcessMessageSubscriptionCreate 2251799813685255 } ∷ []
opening_is_answered = refl

closing_is_answered : sent_by 3 3 (batch to_close.command (outcomes.Accepted [])) ≡ record { from = 3; to = 1; command = commands.ProcessMessageSubscriptionDelete 2251799813685255 } ∷ []
closing_is_answered = refl

-- a message of partition 3 goes to the subscription, until it was taken or turned away or the subscription is gone
abbrev correlating : Event
correlating = events.MessageSubscriptionCorrelating (record { subscription = 2251799813685255; message = 6755399441055749; variables = [] })

abbrev to_subscription : Packet
to_subscription = record { from = 3; to = 1; command = commands.ProcessMessageSubscriptionCorrelate (record { subscription = 2251799813685255; message = 6755399441055749; variables = [] }) }

message_is_sent : outbox_of 3 3 (correlating ∷ events.MessageSubscriptionCorrelated (record { subscription = 2251799813685255; message = 6755399441055750 }) ∷ []) ≡ to_subscription ∷ []
message_is_sent = refl

message_was_taken : outbox_of 3 3 (correlating ∷ events.MessageSubscriptionCorrelated (record { subscription = 2251799813685255; message = 6755399441055749 }) ∷ []) ≡ []
message_was_taken = refl

message_was_turned_away : outbox_of 3 3 (correlating ∷ events.MessageSubscriptionRejected (record { subscription = 2251799813685255; message = 6755399441055749 }) ∷ []) ≡ []
message_was_turned_away = refl

subscription_is_gone : outbox_of 3 3 (correlating ∷ events.MessageSubscriptionDeleted 2251799813685255 ∷ []) ≡ []
subscription_is_gone = refl

-- what is said of it
abbrev taken : Packet
taken = record { from = 1; to = 3; command = commands.MessageSubscriptionCorrelate (record { subscription = 2251799813685255; message = 6755399441055749 }) }

abbrev turned_away : Packet
turned_away = record { from = 1; to = 3; command = commands.MessageSubscriptionReject (record { subscription = 2251799813685255; message = 6755399441055749 }) }

abbrev refused : RejectionKind → List ℕ → Batch
refused kind reason = batch to_subscription.command (outcomes.Rejected (record { kind = kind; reason = reason }))

accepted_is_taken : sent_by 1 3 (batch to_subscription.command (outcomes.Accepted [])) ≡ taken ∷ []
accepted_is_taken = refl

before_is_taken : sent_by 1 3 (refused kinds.AlreadyExists (codes "message 6755399441055749 was correlated")) ≡ taken ∷ []
unfolding digits
before_is_taken = refl

missing_is_turned_away : sent_by 1 3 (refused kinds.NotFound (codes "no subscription 2251799813685255")) ≡ turned_away ∷ []
unfolding digits
missing_is_turned_away = refl

deleted_is_turned_away : sent_by 1 3 (refused kinds.InvalidState (codes "subscription 2251799813685255 is being deleted")) ≡ turned_away ∷ []
unfolding digits
deleted_is_turned_away = refl

-- where it may still be taken, nothing is
waiting_is_not_told : sent_by 1 3 (refused kinds.InvalidState (codes "element 2251799813685254 doesn't wait")) ≡ []
waiting_is_not_told = refl

other_is_not_told : sent_by 1 3 (refused kinds.AlreadyExists (codes "message 6755399441055750 was correlated")) ≡ []
unfolding digits
other_is_not_told = refl

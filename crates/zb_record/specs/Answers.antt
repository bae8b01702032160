-- Answers to packets: what a partition says of one that it took. An answer is sent once, and nobody sends it again (own; the records as in Zeebe).
use Rattle.std.specs.Prelude.{ℕ, List, ◌++◌, codes, Bool, true, false, ◌||◌, if◌then◌else◌, Option, Some, None, option_map}
use Rattle.std.specs.Fmt.{decimal}
use Rattle.std.specs.Str.{bytes_eq}
use Rattle.zb_exchange_records.specs.declared.subscription.MessageCorrelation.{MessageCorrelation}
use Rattle.zb_model.specs.declared.record.Batch.{Batch}
use Rattle.zb_model.specs.declared.record.Command.{Command}
use Rattle.zb_model.specs.declared.record.Command.TheVariants as commands
use Rattle.zb_model.specs.declared.record.Outcome.{Outcome}
use Rattle.zb_model.specs.declared.record.Outcome.TheVariants as outcomes
use Rattle.zb_model.specs.declared.record.Packet.{Packet}
use Rattle.zb_model.specs.declared.record.Rejection.{Rejection}
use Rattle.zb_record.specs.Partitions.{partition_of_key}

-- what is said of a message that was correlated before
abbrev pub was_correlated : ℕ → List ℕ
was_correlated message = codes "message " ++ (decimal message ++ codes " was correlated")

-- of a subscription that isn't there
abbrev pub no_subscription : ℕ → List ℕ
no_subscription key = codes "no subscription " ++ decimal key

-- and of one that is being deleted
abbrev pub being_deleted : ℕ → List ℕ
being_deleted key = codes "subscription " ++ (decimal key ++ codes " is being deleted")

-- the rejection of a message says that its subscription isn't there, or is being deleted
abbrev pub is_turned_away : MessageCorrelation → Rejection → Bool
is_turned_away c r = bytes_eq r.reason (no_subscription c.subscription) || bytes_eq r.reason (being_deleted c.subscription)

-- what is said of a message to who sent it: that it was taken, now or before, or that it was turned away; nothing where it may still be taken
abbrev pub verdict : MessageCorrelation → Outcome → Option Command
verdict c (outcomes.Accepted es) = Some (commands.MessageSubscriptionCorrelate (record { subscription = c.subscription; message = c.message }))
verdict c (outcomes.Rejected r) =
    if bytes_eq r.reason (was_correlated c.message) then Some (commands.MessageSubscriptionCorrelate (record { subscription = c.subscription; message = c.message }))
    else if is_turned_away c r then Some (commands.MessageSubscriptionReject (record { subscription = c.subscription; message = c.message }))
    else None

-- the packet with a command by which partition p of n answers where a key is from
abbrev pub answering_packet : (p n key : ℕ) → Command → Packet
answering_packet p n key command = record { from = p; to = partition_of_key n key; command = command }

-- the answer to a packet with this command that partition p of n took, by what came of it: a definition is there, a subscription is open or closed, a message was taken or turned away
abbrev pub answer_by : (p n : ℕ) → Command → Outcome → Option Packet
answer_by p n (commands.DeploymentDistribute c) outcome = Some (answering_packet p n c.key (commands.CommandDistributionAcknowledge (record { key = c.key; partition = p })))
answer_by p n (commands.MessageSubscriptionCreate c) outcome = Some (answering_packet p n c.subscription (commands.ProcessMessageSubscriptionCreate c.subscription))
answer_by p n (commands.MessageSubscriptionDelete c) outcome = Some (answering_packet p n c.subscription (commands.ProcessMessageSubscriptionDelete c.subscription))
answer_by p n (commands.ProcessMessageSubscriptionCorrelate c) outcome = option_map (answering_packet p n c.message) (verdict c outcome)
answer_by p n _ outcome = None

-- the answer of a batch, if its command came by a packet that is answered
abbrev pub answer_packet : (p n : ℕ) → Batch → Option Packet
answer_packet p n batch = answer_by p n batch.command batch.outcome

-- a command that is an answer, which nobody sends again
abbrev pub is_answer : Command → Bool
is_answer (commands.CommandDistributionAcknowledge c) = true
is_answer (commands.ProcessMessageSubscriptionCreate key) = true
is_answer (commands.MessageSubscriptionCorrelate c) = true
is_answer (commands.MessageSubscriptionReject c) = true
is_answer (commands.ProcessMessageSubscriptionDelete key) = true
is_answer _ = false

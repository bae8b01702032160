-- Packets: the commands that partitions send one another. A packet may be lost, or taken more than once (own; the records as in Zeebe).
use Rattle.std.specs.Prelude.{ℕ, List, ◌++◌, slice_get, Bool, true, false, Option, Some, None, option_map, option_and_then}
use Rattle.std.specs.List.{filter_map}
use Rattle.zb_process.specs.declared.model.Model.{Model}
use Rattle.zb_model.specs.declared.record.Batch.{Batch}
use Rattle.zb_model.specs.declared.record.Command.{Command}
use Rattle.zb_model.specs.declared.record.Command.TheVariants as commands
use Rattle.zb_model.specs.declared.record.Event.{Event}
use Rattle.zb_model.specs.declared.record.Packet.{Packet}
use Rattle.zb_views.specs.View.{events_in}
use Rattle.zb_views.specs.Standing.{Sort, standing, begun_by}
use Rattle.zb_views.specs.Processes.{process_in}
use Rattle.zb_views.specs.declared.distribution.Distribution.{Distribution}
use Rattle.zb_record.specs.declared.sending.Sending.{Sending}
use Rattle.zb_record.specs.declared.sending.Sending.TheVariants as sending
use Rattle.zb_record.specs.Answers.{answer_packet}
use Rattle.zb_record.specs.Partitions.{partition_known, partition_of_key, home_known}
use Rattle.zb_record.specs.Sendings.{sending_told, sendings}

-- the packet by which partition p of n sends a definition, of this version and with this model, where its distribution leads
abbrev pub packet_with : (p n : ℕ) → Distribution → (version : ℕ) → Model → Packet
packet_with p n d version m = record {
  from = p;
  to = partition_known n d.partition;
  command = commands.DeploymentDistribute (record { key = d.definition; version = version; model = m });
}

-- the packet of a distribution, by these events: it has what the last process with its key has; none where they make none
abbrev pub packet_of_definition : (p n : ℕ) → List Event → Distribution → Option Packet
packet_of_definition p n es d = option_map (λ made. packet_with p n d made.version made.model) (process_in d.definition es)

-- the packet of what its own event tells whole: a subscription goes to the home of its messages, a message to the partition of its subscription; none of a definition
abbrev pub packet_alone : (p n : ℕ) → Sending → Option Packet
packet_alone p n (sending.Definition d) = None
packet_alone p n (sending.Opening s) = Some (record { from = p; to = home_known n s.correlation_key; command = commands.MessageSubscriptionCreate s })
packet_alone p n (sending.Correlating c) = Some (record { from = p; to = partition_of_key n c.subscription; command = commands.ProcessMessageSubscriptionCorrelate c })
packet_alone p n (sending.Closing s) = Some (record {
  from = p;
  to = home_known n s.correlation_key;
  command = commands.MessageSubscriptionDelete (record { subscription = s.subscription; keys = s.keys });
})

-- the packet of what is sent, by these events
abbrev pub packet_for : (p n : ℕ) → List Event → Sending → Option Packet
packet_for p n es (sending.Definition d) = packet_of_definition p n es d
packet_for p n es s = packet_alone p n s

-- packets are sent by the events that begin to send, each by the events before that one, and nothing takes that back
abbrev pub packet_sort : (p n : ℕ) → Sort Packet
packet_sort p n = record {
  told = λ before e. option_and_then (packet_for p n before) (sending_told e);
  ends = λ before e packet. false;
  says = λ before e packet. packet;
}

-- the packets that these events send, at partition p of n, and that are sent again until an event ends them
abbrev pub kept_by : (p n : ℕ) → List Event → List Packet
kept_by p n es = standing (packet_sort p n) es

-- the packets of a log at partition p of n that no event has ended, in the order in which they were sent
abbrev pub outbox_of : (p n : ℕ) → List Event → List Packet
outbox_of p n es = filter_map (packet_for p n es) (sendings es)

-- the first one of them
abbrev pub first_packet : (p n : ℕ) → List Event → Option Packet
first_packet p n es = slice_get (outbox_of p n es) 0

-- the packets that a batch of partition p of n sends: those that are kept, and its answer
abbrev pub sent_by : (p n : ℕ) → Batch → List Packet
sent_by p n batch = kept_by p n (events_in batch.outcome) ++ begun_by (answer_packet p n batch)

-- where a packet goes, and its command
abbrev pub delivery_of : Packet → ℕ × Command
delivery_of packet = (packet.to, packet.command)

-- a command that a partition takes by packets alone
abbrev pub is_by_packet : Command → Bool
is_by_packet (commands.DeploymentDistribute c) = true
is_by_packet (commands.CommandDistributionAcknowledge c) = true
is_by_packet (commands.MessageSubscriptionCreate c) = true
is_by_packet (commands.ProcessMessageSubscriptionCreate key) = true
is_by_packet (commands.ProcessMessageSubscriptionCorrelate c) = true
is_by_packet (commands.MessageSubscriptionCorrelate c) = true
is_by_packet (commands.MessageSubscriptionReject c) = true
is_by_packet (commands.MessageSubscriptionDelete c) = true
is_by_packet (commands.ProcessMessageSubscriptionDelete key) = true
is_by_packet _ = false

use Rattle.std.proofs.Common.{◌≡◌, List}
use Rattle.std.specs.List.{filter_map}
use Rattle.zb_model.specs.declared.record.Event.{Event}
use Rattle.zb_record.specs.Packets.{packet_for, outbox_of}
use Rattle.zb_state.specs.State.{partition_of, IsStateOf}
use Rattle.zb_state.proofs.state.State.first_packet.Given as goal

-- all packets are of what is left
abbrev pub invariant-loop-sending : goal.invariant-loop-sending
invariant-loop-sending l = (es : List Event) → IsStateOf es l.self
    → filter_map (packet_for (partition_of l.self) l.partitions es) l.sending-iterator ≡ outbox_of (partition_of l.self) l.partitions es

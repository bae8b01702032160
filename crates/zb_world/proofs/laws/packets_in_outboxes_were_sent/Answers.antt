use Rattle.zb_world.proofs.PacketLaws.{outbox_was_sent}
use Rattle.zb_world.proofs.laws.packets_in_outboxes_were_sent.Goals as goal

pub returns : goal.returns
returns c = outbox_was_sent

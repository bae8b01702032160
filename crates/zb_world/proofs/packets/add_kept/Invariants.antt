use Rattle.std.proofs.Common.{◌≡◌, ◌++◌, take}
use Rattle.zb_record.specs.Packets.{kept_by}
use Rattle.zb_world.proofs.packets.add_kept.Given as goal

-- the packets of the events so far were added
abbrev pub invariant-loop-place : goal.invariant-loop-place
invariant-loop-place l = l.packets.items ≡ l.initial.packets.items ++ kept_by l.from l.partitions (take l.place l.events)

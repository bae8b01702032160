use Rattle.zb_world.specs.History.{IsSentAmong}
use Rattle.zb_world.proofs.sent.sent_in.Given as goal

-- none of the entries so far sends it
abbrev pub invariant-loop-entry : goal.invariant-loop-entry
invariant-loop-entry l = IsSentAmong l.partitions l.entries l.entry-index l.packet → ⊥

use Rattle.std.proofs.Common.{◌≡◌, ◌++◌, ◌-◌, ◌≤◌, IsTrue, length, take}
use Rattle.zb_lines.proofs.sender.send.Given as goal

abbrev pub invariant-loop-sent : goal.invariant-loop-sent
invariant-loop-sent g l = (l.sent ≤ length l.bytes)
    × (IsTrue g.K.Sink.tells → (g.K.Sink.view l.sink).written ≡ (g.K.Sink.view l.fn.sink).written ++ take l.sent l.bytes)
    × ((g.K.Sink.view l.fn.sink).faults ≤ (g.K.Sink.view l.sink).faults)
    × (IsTrue g.K.Sink.counts_failures → (g.K.Sink.view l.sink).faults ≡ (g.K.Sink.view l.fn.sink).faults)

abbrev pub decreases-loop-sent : goal.decreases-loop-sent
decreases-loop-sent g l = length l.bytes - l.sent

use Rattle.std.proofs.Common.{◌≡◌, ◌+◌, List, drop}
use Rattle.zb_world.specs.declared.entry.Entry.{Entry}
use Rattle.zb_desk.specs.Serial.{first_sent}
use Rattle.zb_engine.specs.Solo.{Start, many_in, logs_in, HasMade}
use Rattle.zb_engine.proofs.solo.Solo.first_sent.Given as goal

-- nothing was sent so far
abbrev pub invariant-loop-index : goal.invariant-loop-index
invariant-loop-index g l = (start : Start g.row.D.Denot) (made : List Entry) → HasMade start made l.self
    → first_sent (many_in start) 1 (logs_in start) made ≡ first_sent (many_in start) (1 + l.index) (drop l.index (logs_in start)) made

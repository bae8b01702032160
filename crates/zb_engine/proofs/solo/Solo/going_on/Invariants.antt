use Rattle.std.proofs.Common.{◌≡◌, ◌+◌, List, drop}
use Rattle.zb_world.specs.declared.entry.Entry.{Entry}
use Rattle.zb_desk.specs.Serial.{going_on}
use Rattle.zb_engine.specs.Solo.{Start, logs_in, HasMade}
use Rattle.zb_engine.proofs.solo.Solo.going_on.Given as goal

-- nobody goes on so far
abbrev pub invariant-loop-index : goal.invariant-loop-index
invariant-loop-index g l = (start : Start g.row.D.Denot) (made : List Entry) → HasMade start made l.self
    → going_on 1 (logs_in start) made ≡ going_on (1 + l.index) (drop l.index (logs_in start)) made

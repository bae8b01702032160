use Rattle.std.proofs.Common.{◌≡◌, List, length, None}
use Rattle.zb_world.specs.declared.entry.Entry.{Entry}
use Rattle.zb_engine.specs.Solo.{Start, partitions_in, kept_in, HasMade}
use Rattle.zb_engine.proofs.AskingLemmas.{AreTicked}
use Rattle.zb_engine.proofs.asking.tick.Given as goal

-- so many batches were made, and it goes on
abbrev pub invariant-loop-done : goal.invariant-loop-done
invariant-loop-done g l = ((start : Start g.row.D.Denot) (made : List Entry) → HasMade start made l.fn.solo → AreTicked start made l.reading l.done l.solo)
    × (kept_in l.solo ≡ None) × (length (partitions_in l.solo) ≡ length (partitions_in l.fn.solo))

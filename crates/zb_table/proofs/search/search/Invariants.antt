use Rattle.std.proofs.Common.{◌≤◌, ◌-◌, length}
use Rattle.zb_table.specs.Places.{count_below}
use Rattle.zb_table.proofs.search.search.Given as goal

-- the count lies between the two
abbrev pub invariant-loop-low : goal.invariant-loop-low
invariant-loop-low g l = record { from : l.low ≤ count_below l.key l.places; to : count_below l.key l.places ≤ l.high; within : l.high ≤ length l.places }

abbrev pub decreases-loop-low : goal.decreases-loop-low
decreases-loop-low g l = l.high - l.low

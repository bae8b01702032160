use Rattle.std.proofs.Common.{◌≤◌, ◌-◌, length}
use Rattle.zb_table.proofs.search.lower_end.Given as goal

abbrev pub invariant-loop-width : goal.invariant-loop-width
invariant-loop-width g l = 8 ≤ l.width

abbrev pub decreases-loop-width : goal.decreases-loop-width
decreases-loop-width g l = length l.places - l.width

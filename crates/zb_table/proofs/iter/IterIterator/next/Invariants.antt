use Rattle.std.proofs.Common.{◌≡◌, length}
use Rattle.zb_table.specs.Places.{rows_in}
use Rattle.zb_table.proofs.iter.IterIterator.next.Given as goal

-- the places so far are empty
abbrev pub invariant-loop-place : goal.invariant-loop-place
invariant-loop-place g l = rows_in l.self-inside.places.now ≡ l.fn.self

abbrev pub decreases-loop-place : goal.decreases-loop-place
decreases-loop-place g l = length l.self-inside.places.now

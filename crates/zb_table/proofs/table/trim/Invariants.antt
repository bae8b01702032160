use Rattle.std.proofs.Common.{◌≡◌, ◌+◌, length}
use Rattle.zb_table.specs.Places.{count_empty, rows_in, AreOrdered}
use Rattle.zb_table.proofs.table.trim.Given as goal

-- the rows are the same, and so many empty places fewer are there
abbrev pub invariant-loop-places : goal.invariant-loop-places
invariant-loop-places g l = record {
  rows : rows_in l.places.items ≡ rows_in l.fn.places.items;
  order : AreOrdered g.R.Row.key_in 0 l.fn.places.items → AreOrdered g.R.Row.key_in 0 l.places.items;
  count : count_empty l.places.items + l.trimmed ≡ count_empty l.fn.places.items;
  few : length l.places.items + l.trimmed ≡ length l.fn.places.items;
}

abbrev pub decreases-loop-places : goal.decreases-loop-places
decreases-loop-places g l = length l.places.items

use Rattle.std.proofs.Common.{◌≡◌, filter, length}
use Rattle.zb_queue.specs.Numbers.{AreNumbers}
use Rattle.zb_queue.proofs.RowLemmas.{is_under, out}
use Rattle.zb_queue.proofs.queue.Queue.end_under.Given as goal

-- the rows that don't pass are those of before
abbrev pub invariant-loop-number : goal.invariant-loop-number
invariant-loop-number g l = record {
  right : AreNumbers g.R.Queued.name_in l.self-inside.rows l.self-inside.numbers;
  stay : filter (out (is_under g.R.Queued.name_in l.key (g.Q.Query.passes l.query))) l.self-inside.rows.entries ≡ filter (out (is_under g.R.Queued.name_in l.key (g.Q.Query.passes l.query))) l.initial.self-inside.rows.entries;
}

abbrev pub decreases-loop-number : goal.decreases-loop-number
decreases-loop-number g l = length l.self-inside.rows.entries

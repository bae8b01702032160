use Rattle.std.proofs.Common.{◌≡◌, ◌-◌, List}
use Rattle.zb_model.specs.Upshots.{events_at}
use Rattle.zb_model.specs.declared.record.Event.{Event}
use Rattle.zb_state.specs.State.{partition_of, IsStateOf}
use Rattle.zb_partition.proofs.ReadingLemmas.{AreTakenSoFar}
use Rattle.zb_partition.proofs.opening.take_events.Given as goal

-- the events so far apply and were taken in, and those and the ones that are left are all of them
abbrev pub invariant-loop : goal.invariant-loop
invariant-loop l = record {
  place : partition_of l.state ≡ partition_of l.fn.state;
  taken : (es : List Event) → IsStateOf es l.fn.state
      → AreTakenSoFar (partition_of l.fn.state) es (events_at (l.count - l.counter) l.cursor) (events_at l.count l.fn.cursor) l.state;
}

use Rattle.std.proofs.Common.{◌≡◌, ◌++◌, List, take}
use Rattle.zb_model.specs.declared.record.Event.{Event}
use Rattle.zb_state.specs.State.{partition_of, IsStateOf}
use Rattle.zb_tally.proofs.counting.take_in.Given as goal

-- the events before the index were taken in
abbrev pub invariant-loop-event : goal.invariant-loop-event
invariant-loop-event l = record {
  place : partition_of l.state ≡ partition_of l.fn.state;
  state : (es : List Event) → IsStateOf es l.fn.state → IsStateOf (es ++ take l.event-index l.events) l.state;
}

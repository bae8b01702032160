use Rattle.std.proofs.Common.{◌≡◌, ◌++◌, ◌-◌, List, length}
use Rattle.zb_model.specs.declared.record.Event.{Event}
use Rattle.zb_rules.specs.Settling.{full}
use Rattle.zb_state.specs.State.{partition_of, IsStateOf, IsUnreached}
use Rattle.zb_follow.proofs.TurnLemmas.{GoesOn}
use Rattle.zb_follow.proofs.settling.settle.Given as goal

-- the turns so far were taken in
abbrev pub invariant-loop-alloc : goal.invariant-loop-alloc
invariant-loop-alloc l = record {
  place : partition_of l.state ≡ partition_of l.initial.state;
  goes_on : (before : List Event) → IsStateOf (before ++ l.initial.out) l.initial.state → GoesOn (partition_of l.initial.state) l.moment before l.initial.out l.out;
  comes_to : (before : List Event) → IsStateOf (before ++ l.initial.out) l.initial.state → IsStateOf (before ++ l.out) l.state;
  unreached : IsUnreached l.state → IsUnreached l.initial.state;
}

abbrev pub decreases-loop-alloc : goal.decreases-loop-alloc
decreases-loop-alloc l = full - length l.out

use Rattle.std.proofs.Common.{◌≡◌, List, ℕ, IsTrue, take}
use Rattle.zb_model.specs.declared.record.Batch.{Batch}
use Rattle.zb_views.specs.View.{events_of}
use Rattle.zb_store.specs.GateLog.{disk_of_log, HasClosedFrames, IsSameLog}
use Rattle.zb_partition.specs.Log.{bodies_of, AreBatches}
use Rattle.zb_state.specs.State.{partition_of, IsStateOf}
use Rattle.zb_tally.proofs.CountLemmas.{AreCounted}
use Rattle.zb_tally.proofs.counting.count_log.Given as goal

-- the batches before the index were counted
abbrev pub invariant-loop-i : goal.invariant-loop-i
invariant-loop-i g l =
    let disks = g.D.Disk in
    record {
      same : IsSameLog l.initial.log l.log;
      place : partition_of l.state ≡ l.fn.place;
      kept : IsTrue disks.tells → (bodies : List (List ℕ)) → HasClosedFrames (disks.view (disk_of_log l.initial.log)).contents l.initial.log bodies
          → HasClosedFrames (disks.view (disk_of_log l.log)).contents l.log bodies;
      state : IsTrue disks.tells → (all : List Batch) → HasClosedFrames (disks.view (disk_of_log l.initial.log)).contents l.initial.log (bodies_of all) → AreBatches all
          → IsStateOf (events_of (take l.i all)) l.state;
      counted : IsTrue disks.tells → (all : List Batch) → HasClosedFrames (disks.view (disk_of_log l.initial.log)).contents l.initial.log (bodies_of all) → AreBatches all
          → AreCounted (take l.i all) l.tally;
    }

use Rattle.std.proofs.Common.{◌≡◌, ◌++◌, ◌+◌, ◌*◌, ◌≤◌, ◌^◌, ℕ, List, take, IsTrue}
use Rattle.zb_model.specs.declared.record.Batch.{Batch}
use Rattle.zb_partition.specs.Log.{bodies_of, AreBatches}
use Rattle.zb_store.specs.Calls.{OnlyReads}
use Rattle.zb_store.specs.GateLog.{disk_of_log, HasClosedFrames, IsSameLog}
use Rattle.zb_show.specs.Lines.{lines_from}
use Rattle.zb_show.proofs.ShowLemmas.{records_among}
use Rattle.zb_show.proofs.printing.print_log.Given as goal

-- the batches before the index have their lines
abbrev pub invariant-loop-i : goal.invariant-loop-i
invariant-loop-i g l =
    let disks = g.D.Disk in
    let sinks = g.K.Sink in
    record {
      same : IsSameLog l.fn.log l.log;
      reads : OnlyReads disks (disk_of_log l.fn.log) (disk_of_log l.log);
      later : (sinks.view l.fn.sink).faults ≤ (sinks.view l.sink).faults;
      most : l.position ≤ 1 + l.i * 2 ^ 64;
      kept : IsTrue disks.tells → (bodies : List (List ℕ)) → HasClosedFrames (disks.view (disk_of_log l.fn.log)).contents l.fn.log bodies
          → HasClosedFrames (disks.view (disk_of_log l.log)).contents l.log bodies;
      told : IsTrue disks.tells → IsTrue sinks.tells → (all : List Batch) → HasClosedFrames (disks.view (disk_of_log l.fn.log)).contents l.fn.log (bodies_of all) → AreBatches all
          → (l.position ≡ 1 + records_among (take l.i all)) × ((sinks.view l.sink).written ≡ (sinks.view l.fn.sink).written ++ lines_from l.place 1 (take l.i all));
    }

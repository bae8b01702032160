use Rattle.std.proofs.Common.{◌≡◌, ◌+◌, List, IsTrue, drop, vec_len}
use Rattle.zb_model.specs.declared.record.Batch.{Batch}
use Rattle.zb_tally.specs.Counts.{both_tallies, tally_from}
use Rattle.zb_tally.specs.Served.{AreLogsOf}
use Rattle.zb_tally.proofs.counting.count_all.Given as goal

-- the logs of the volumes that are left are counted behind those that were
abbrev pub invariant-loop-index : goal.invariant-loop-index
invariant-loop-index g l = record {
  left : vec_len l.volumes + l.index ≡ vec_len l.fn.volumes;
  counted : IsTrue g.D.Disk.tells → (logs : List (List Batch)) → AreLogsOf g.D.Disk l.fn.volumes.items logs
      → AreLogsOf g.D.Disk l.volumes.items (drop l.index logs) × (both_tallies l.tally (tally_from (1 + l.index) (drop l.index logs)) ≡ tally_from 1 logs);
}

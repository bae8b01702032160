use Rattle.std.proofs.Common.{◌≡◌, ◌-◌, ◌^◌, List, IsTrue, IsFalse}
use Rattle.zb_model.specs.declared.record.Batch.{Batch}
use Rattle.zb_store.specs.Calls.{OnlyReads}
use Rattle.zb_store.specs.Scan.{disk_of_scan, limit_of_scan, gate_of_scan, is_over}
use Rattle.zb_partition.specs.Reading.{IsRead}
use Rattle.zb_partition.proofs.opening.read_frames.Given as goal

-- the frames so far are of some batches, and the file is only read
abbrev pub invariant-loop-known : goal.invariant-loop-known
invariant-loop-known g l =
    let disks = g.D.Disk in
    record {
      read : (log : List Batch) × IsRead l.fn.place (disks.view (disk_of_scan l.scan)).contents l.scan log l.known;
      going : IsFalse (is_over l.scan);
      limit : limit_of_scan l.scan ≡ limit_of_scan l.fn.scan;
      reads : OnlyReads disks (disk_of_scan l.fn.scan) (disk_of_scan l.scan);
      steady : IsTrue disks.counts_failures → (disks.view (disk_of_scan l.scan)).faults ≡ (disks.view (disk_of_scan l.fn.scan)).faults;
    }

abbrev pub decreases-loop-known : goal.decreases-loop-known
decreases-loop-known g l = 2 ^ 58 - gate_of_scan l.scan

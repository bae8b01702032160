use Rattle.std.proofs.Common.{◌≡◌, ◌-◌, ◌^◌, ℕ, List, IsTrue, IsFalse}
use Rattle.zb_store.specs.Calls.{OnlyReads}
use Rattle.zb_store.specs.Scan.{disk_of_scan, limit_of_scan, gate_of_scan, is_over, HasFound}
use Rattle.zb_store.proofs.scan.Scan.run.Given as goal

abbrev pub invariant-loop-scan : goal.invariant-loop-scan
invariant-loop-scan g l =
    let disks = g.D.Disk in
    record {
      going : IsFalse (is_over l.scan);
      limit : limit_of_scan l.scan ≡ limit_of_scan l.fn.self;
      reads : OnlyReads disks (disk_of_scan l.fn.self) (disk_of_scan l.scan);
      steady : IsTrue disks.counts_failures → (disks.view (disk_of_scan l.scan)).faults ≡ (disks.view (disk_of_scan l.fn.self)).faults;
      found : IsTrue disks.tells → (bodies : List (List ℕ)) → HasFound (disks.view (disk_of_scan l.fn.self)).contents l.fn.self bodies
          → (all : List (List ℕ)) × HasFound (disks.view (disk_of_scan l.scan)).contents l.scan all;
    }

abbrev pub decreases-loop-scan : goal.decreases-loop-scan
decreases-loop-scan g l = 2 ^ 58 - gate_of_scan l.scan

use Rattle.std.proofs.Common.{◌≡◌, ◌≤◌, ◌<◌, ℕ, List, length, take, IsTrue}
use Rattle.zb_store.specs.Calls.{OnlyReads}
use Rattle.zb_store.specs.Stands.{Leads}
use Rattle.zb_store.proofs.walking.walk.Given as goal

abbrev pub invariant-loop-passed : goal.invariant-loop-passed
invariant-loop-passed g l =
    let disks = g.D.Disk in
    let file = (disks.view l.fn.disk).contents in
    record {
      inside : l.gate ≤ l.last;
      reads : OnlyReads disks l.fn.disk l.disk;
      steady : IsTrue disks.counts_failures → (disks.view l.disk).faults ≡ (disks.view l.fn.disk).faults;
      leads : IsTrue disks.tells → (bodies : List (List ℕ)) → Leads file 0 bodies l.last → Leads file 0 (take l.fn.near.0 bodies) l.fn.near.1 → l.frame < length bodies
          → Leads file 0 (take l._passed bodies) l.gate;
    }

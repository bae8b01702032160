use Rattle.std.proofs.Common.{◌∙◌, ◌++◌, ◌∷◌, [], IsFalse, refl, arith, rules}
use Rattle.zb_store.proofs.CallLaws.{leaves_none, reads_then}
use Rattle.zb_store.specs.Scan.{disk_of_scan, is_over}
use Rattle.zb_partition.proofs.opening.read_frames.Goals as goal

-- no frame was read so far
pub loop-known-init : goal.loop-known-init
loop-known-init g c =
    let start = c.requires in
    let d = disk_of_scan c.args.scan.now in
    record {
      read = (
        [],
        record {
          knows = record {
            place = c.empty.ensures.place;
            fits = tt;
            applied = refl;
            state = c.empty.ensures.state;
            moment = search rules;
          };
          count = start.count;
          extent = search rules;
          found = start.none;
        },
      );
      going = start.going;
      limit = refl;
      reads = record {
        later = omega arith;
        same = λ tells. refl;
        crash = λ tells contents left. left;
        time = λ tells. leaves_none (g.D.Disk.view d).moment (g.D.Disk.since d) (g.D.Disk.images d);
      };
      steady = λ counts. refl;
    }

-- one more frame was read
pub loop-known-preserved : goal.loop-known-preserved
loop-known-preserved g c =
    let before = c.loop-known.invariant in
    let said = c.in-Ok-true.ensures in
    let going : IsFalse (is_over c.read_next.new.scan) = search rules in
    let next = rw c.in-Ok-true.field-0-test at (said.read c.args.place before.read.0 before.read.1) in
    record {
      read = (before.read.0 ++ next.0 ∷ [], next.1);
      going = going;
      limit = said.limit ∙ before.limit;
      reads = reads_then g.D.Disk (disk_of_scan c.args.scan.now) (disk_of_scan c.loop-known.scan) (disk_of_scan c.read_next.new.scan) before.reads said.reads;
      steady = λ counts. said.steady counts ∙ before.steady counts;
    }

-- the frames before the fault were only read, and its own was too
pub returns-in-Err-clause-reads : goal.returns-in-Err-clause-reads
returns-in-Err-clause-reads g c =
    reads_then g.D.Disk (disk_of_scan c.args.scan.now) (disk_of_scan c.loop-known.scan) (disk_of_scan c.read_next.new.scan) c.loop-known.invariant.reads c.in-Err.ensures.reads

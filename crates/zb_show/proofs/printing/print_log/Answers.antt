use Rattle.std.proofs.Common.{◌≡◌, [], ◌++◌, ◌≤◌, length, refl, ap, sym, ◌∙◌, arith}
use Rattle.std.proofs.lemmas.List.{append-nil, take_all, length-map}
use Rattle.zb_model.specs.Record.{bytes_of}
use Rattle.zb_partition.specs.Log.{bodies_of}
use Rattle.zb_store.proofs.CallLaws.{leaves_none, reads_then}
use Rattle.zb_store.specs.GateLog.{disk_of_log}
use Rattle.zb_show.specs.Lines.{lines_from, log_lines}
use Rattle.zb_show.proofs.ShowLemmas.{told_more, told_part, all_written, written_all, cause_since}
use Rattle.zb_show.proofs.printing.print_log.Goals as goal

-- nothing is printed so far
pub loop-i-init : goal.loop-i-init
loop-i-init g c =
    let d = disk_of_log c.args.log.now in
    record {
      same = record { limit = refl; count = refl; last_gate = refl; whole = refl };
      reads = record {
        later = omega arith;
        same = λ tells. refl;
        crash = λ tells contents left. left;
        time = λ tells. leaves_none (g.D.Disk.view d).moment (g.D.Disk.since d) (g.D.Disk.images d);
      };
      later = omega arith;
      most = omega arith;
      kept = λ tells bodies has. has;
      told = λ tells told all has fits. (refl, sym (append-nil (g.K.Sink.view c.args.sink.now).written));
    }

pub print_frame-requires-clause-within : goal.print_frame-requires-clause-within
print_frame-requires-clause-within g c = omega (arith, c.loop-i.invariant.same.count, c.count-count.ensures, c.loop-i-test.true)

pub print_frame-requires-clause-room : goal.print_frame-requires-clause-room
print_frame-requires-clause-room g c = omega (arith, c.loop-i.invariant.most, c.loop-i-test.true, c.count-count.type_inv)

-- one batch more is printed
pub loop-i-preserved : goal.loop-i-preserved
loop-i-preserved g c =
    let before = c.loop-i.invariant in
    let said = c.in-Ok.ensures in
    record {
      same = record {
        limit = said.same.limit ∙ before.same.limit;
        count = said.same.count ∙ before.same.count;
        last_gate = said.same.last_gate ∙ before.same.last_gate;
        whole = said.same.whole ∙ before.same.whole;
      };
      reads = reads_then g.D.Disk (disk_of_log c.args.log.now) (disk_of_log c.loop-i.log) (disk_of_log c.print_frame.new.log) before.reads said.reads;
      later = omega (arith, before.later, said.later);
      most = omega (arith, before.most, said.few);
      kept = λ tells bodies has. said.kept tells bodies (before.kept tells bodies has);
      told = λ tells told all has fits.
          let so_far = before.told tells told all has fits in
          let next = said.shown tells told all (before.kept tells (bodies_of all) has) fits in
          told_more c.args.place c.loop-i.i all next.0 c.loop-i.position c.in-Ok.next _ _ _ next.1 so_far.0 next.2 so_far.1 (all_written _ _ _ next.3.0 next.3.1 next.3.2);
    }

pub returns-in-Err-clause-good : goal.returns-in-Err-clause-good
returns-in-Err-clause-good g c = λ tells all has fits. c.in-Err.ensures.good tells all (c.loop-i.invariant.kept tells (bodies_of all) has) fits

pub returns-in-Err-clause-shown : goal.returns-in-Err-clause-shown
returns-in-Err-clause-shown g c = λ tells told all has fits.
    let so_far = c.loop-i.invariant.told tells told all has fits in
    let next = c.in-Err.ensures.shown tells told all (c.loop-i.invariant.kept tells (bodies_of all) has) fits in
    let part = told_part c.args.place c.loop-i.i all next.0 c.loop-i.position _ _ _ next.3.0 next.1 so_far.0 so_far.1 next.3.1 in
    (part.0, part.1, tt)

pub returns-in-Err-clause-reads : goal.returns-in-Err-clause-reads
returns-in-Err-clause-reads g c =
    reads_then g.D.Disk (disk_of_log c.args.log.now) (disk_of_log c.loop-i.log) (disk_of_log c.print_frame.new.log) c.loop-i.invariant.reads c.in-Err.ensures.reads

pub returns-in-Err-clause-cause : goal.returns-in-Err-clause-cause
returns-in-Err-clause-cause g c = cause_since _ _ _ _ _ _ c.in-Err.fault c.loop-i.invariant.reads.later c.loop-i.invariant.later c.in-Err.ensures.cause

pub returns-clause-shown : goal.returns-clause-shown
returns-clause-shown g c = λ tells told all has fits.
    let count : length (bodies_of all) ≡ length all = length-map all bytes_of in
    let done : length all ≤ c.loop-i.i = omega (arith, count, has.frames.count, c.count-count.ensures, c.loop-i-test.false) in
    let written = (g.K.Sink.view c.args.sink.now).written in
    let whole = (c.loop-i.invariant.told tells told all has fits).1 ∙ ap (λ batches. written ++ lines_from c.args.place 1 batches) (take_all c.loop-i.i all done) in
    ([], written_all (log_lines c.args.place all) written (g.K.Sink.view c.loop-i.sink).written whole, refl)

pub returns-clause-good : goal.returns-clause-good
returns-clause-good g c = λ tells all has fits. tt

pub returns-clause-reads : goal.returns-clause-reads
returns-clause-reads g c = c.loop-i.invariant.reads

pub returns-clause-cause : goal.returns-clause-cause
returns-clause-cause g c = tt

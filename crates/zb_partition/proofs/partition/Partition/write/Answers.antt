use Rattle.std.proofs.Common.{◌≡◌, ℕ, length, Err, rules, sym, ap, ◌∙◌, subst, refl, arith, inr}
use Rattle.std.proofs.lemmas.Bool.{false≢true}
use Rattle.zb_model.specs.Record.{bytes_of}
use Rattle.zb_disk.specs.Cause.{Rose}
use Rattle.zb_store.specs.Calls.{LeavesFiles}
use Rattle.zb_store.specs.Cause.{IsFullAt}
use Rattle.zb_store.specs.declared.fault.StoreFault.TheVariants as store
use Rattle.zb_store.proofs.CallLaws.{left_weaker}
use Rattle.zb_store.specs.GateLog as gates
use Rattle.zb_store.specs.Stands.{StandsWithOrWithout}
use Rattle.zb_store.proofs.LogLaws.{framed_length}
use Rattle.zb_store.specs.declared.gate_log.GateLog.{GateLog}
use Rattle.zb_partition.specs.Log.{bodies_of, frame_size}
use Rattle.zb_partition.specs.Partition.{disk_of}
use Rattle.zb_partition.specs.Stopping.{IsLogOrMore}
use Rattle.zb_partition.specs.Submitting.{IsRoomFor}
use Rattle.zb_partition.proofs.WritingLemmas.{unwritten_none, unwritten_some, memory_told, log_or_more, ahead_kept, has_more, unless_told}
use Rattle.zb_partition.proofs.partition.Partition.write.Goals as goal

pub returns-in-Err-clause-unwritten : goal.returns-in-Err-clause-unwritten
returns-in-Err-clause-unwritten g c = λ log ahead.
    let laws = g.met.D.Disk in
    let old = c.args.self.now in
    unwritten_none old.log c.prepare.new.self log c.in-Err.ensures.log (c.in-Err.ensures.in_writing ∙ ahead.resting)
    laws.images_told (λ tells image was. laws.only_now (disk_of old) image tells was) ahead.frames c.args.batch c.in-Err.stop c.in-Err.ensures.full

pub invariant_of-self-in-Err-append : goal.invariant_of-self-in-Err-append
invariant_of-self-in-Err-append g c = record {
  whole = λ live. absurd (false≢true (sym c.requires.stopped ∙ sym c.in-Ok.ensures.live ∙ live));
  sound = λ live. absurd (false≢true (sym c.requires.stopped ∙ sym c.in-Ok.ensures.live ∙ live));
  limited = search rules;
  counted = search rules;
  resting = λ live. absurd (false≢true (sym c.requires.stopped ∙ sym c.in-Ok.ensures.live ∙ live));
}

pub returns-in-Ok-append-clause-written : goal.returns-in-Ok-append-clause-written
returns-in-Ok-append-clause-written g c = λ log ahead.
    let D = g.D.Disk in
    let Gate = GateLog g.row.D.Denot D in
    let batch = c.args.batch in
    let said = c.in-Ok.ensures in
    let done = c.in-Ok-append.ensures in
    let mid = c.prepare.new.self in
    let new = gates.disk_of_log c.append.new.self in
    let a = ahead_kept log c.args.self.now mid said.log said.in_writing batch said.state said.last_moment ahead in
    let frame = c.deref.ensures.value ∙ said.frame in
    let size : length c.deref.result.now ≡ frame_size batch = ap length frame ∙ framed_length (bytes_of batch) in
    let long : gates.length_of mid.log ≡ gates.length_of c.args.self.now.log = ap (λ (l : Gate). gates.length_of l) said.log in
    let limit : gates.limit_of_log mid.log ≡ gates.limit_of_log c.args.self.now.log = ap (λ (l : Gate). gates.limit_of_log l) said.log in
    let faults : (gates.view_of_log mid.log).faults ≡ (gates.view_of_log c.args.self.now.log).faults = ap (λ (l : Gate). (gates.view_of_log l).faults) said.log in
    record {
      has = has_more log batch mid _ a said.batch (done.added (bodies_of log) (bytes_of batch) a.frames frame) done.grown.count refl refl refl;
      long = omega (arith, done.grown.longer, size, long);
      fits = omega (arith, done.grown.longer, done.grown.fits, limit);
      leaves = subst (λ (l : Gate). LeavesFiles D (gates.disk_of_log l) new (IsLogOrMore log batch)) said.log
          (left_weaker D (disk_of mid) new _ _ (log_or_more log batch) (c.append.ensures.left (bodies_of log) (bytes_of batch) a.frames frame));
      later = omega (arith, done.cause.later, faults);
      steady = λ counts. done.cause.steady counts ∙ faults;
    }

pub returns-in-Err-append-clause-unwritten : goal.returns-in-Err-append-clause-unwritten
returns-in-Err-append-clause-unwritten g c = λ log ahead.
    let said = c.in-Ok.ensures in
    let done = c.in-Err-append.ensures in
    let batch = c.args.batch in
    let mid = c.prepare.new.self in
    let a = ahead_kept log c.args.self.now mid said.log said.in_writing batch said.state said.last_moment ahead in
    let frame = c.deref.ensures.value ∙ said.frame in
    let size : length c.deref.result.now ≡ frame_size batch = ap length frame ∙ framed_length (bytes_of batch) in
    let Gate = GateLog g.row.D.Denot g.D.Disk in
    let D = g.D.Disk in
    let old = c.args.self.now.log in
    let fault = c.in-Err-append.fault in
    let new = gates.disk_of_log c.append.new.self in
    let there : IsRoomFor mid.log batch = omega (arith, said.fits, ap length said.frame, framed_length (bytes_of batch)) in
    let faults : (gates.view_of_log mid.log).faults ≡ (gates.view_of_log old).faults = ap (λ (l : Gate). (gates.view_of_log l).faults) said.log in
    let left = subst (λ (l : Gate). LeavesFiles D (gates.disk_of_log l) new (StandsWithOrWithout (bodies_of log) (bytes_of batch))) said.log (done.left (bodies_of log) (bytes_of batch) a.frames frame) in
    let rose : fault ≡ store.DiskFault → Rose (gates.view_of_log old).faults (D.view new).faults = λ is. subst (λ (n : ℕ). Rose n (D.view new).faults) faults (done.cause.failed (ap Err is)) in
    rw c.stop_of.ensures
    (unwritten_some old _ log batch said.batch (subst (λ (l : Gate). IsRoomFor l batch) said.log there) refl left (length c.deref.result.now) size fault
    (subst (λ (l : Gate). IsFullAt (gates.length_of l) (length c.deref.result.now) (gates.limit_of_log l) fault) said.log done.kept_out.full) rose
    (λ e. done.cause.memory (ap Err e)) (λ counts other. unless_told fault _ (done.cause.steady counts) other ∙ faults))

pub returns-in-Err-append-clause-memory : goal.returns-in-Err-append-clause-memory
returns-in-Err-append-clause-memory g c = λ none is.
    inr (memory_told g.D.Disk.takes_memory c.in-Err-append.fault (λ e. c.in-Err-append.ensures.cause.memory (ap Err e)) (sym c.stop_of.ensures ∙ cc))

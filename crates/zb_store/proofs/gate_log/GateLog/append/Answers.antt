use Rattle.std.proofs.Common.{◌≡◌, ◌+◌, ◌++◌, ◌∷◌, [], ℕ, length, sym, ap, subst, arith}
use Rattle.std.proofs.lemmas.List.{length_push}
use Rattle.zb_disk.specs.Disk.{Only}
use Rattle.zb_store.specs.GateLog.{last_gate_of, HasClosedFrames}
use Rattle.zb_store.specs.Calls.{LeavesFiles}
use Rattle.zb_store.specs.Stands.{EndsAt, StandsWithOrWithout}
use Rattle.zb_store.specs.Log.{framed}
use Rattle.zb_store.proofs.LogLaws.{framed_length, extent_more}
use Rattle.zb_store.proofs.FrameLemmas.{ends_at, leaves_still, leaves_written, log_more}
use Rattle.zb_store.proofs.gate_log.GateLog.append.Goals as goal

pub returns-then-gate-size-clause-left : goal.returns-then-gate-size-clause-left
returns-then-gate-size-clause-left g c = λ bodies body has form.
    let log = c.args.self.now in
    leaves_still g.met.D.Disk.images_told log bodies body has (λ tells image was. g.met.D.Disk.only_now log.disk image tells was)

pub go_on-requires-clause-apart : goal.go_on-requires-clause-apart
go_on-requires-clause-apart g c = omega (arith, ap length c.requires.form.1, framed_length c.requires.form.0)

pub returns-in-Ok-clause-added : goal.returns-in-Ok-clause-added
returns-in-Ok-clause-added g c = λ bodies body has form.
    let disks = g.D.Disk in
    let log = c.args.self.now in
    let new = c.go_on.new.self in
    let was = (disks.view log.disk).contents in
    let file = (disks.view c.write_frame.new.disk).contents in
    let last : last_gate_of new ≡ last_gate_of log + length (framed body) = omega (arith, c.go_on.ensures.last, ap length form) in
    record {
      count = omega (arith, c.go_on.ensures.count, has.count, length_push bodies body);
      length = omega (arith, last, framed_length body, has.length, extent_more bodies body);
      file = λ told.
          let ends = c.in-Ok.ensures.written told bodies body (ends_at was log bodies (has.file told) (log.inside told)) form in
          let ends_there = subst (λ (n : ℕ). EndsAt file (bodies ++ body ∷ []) n) (sym c.go_on.ensures.last) ends in
          let more = log_more file was log new bodies body (has.file told).frames log.near_counted c.go_on.ensures.near_frame c.go_on.ensures.near_gate c.go_on.ensures.count last ends_there in
          subst (λ d. HasClosedFrames (disks.view d).contents new (bodies ++ body ∷ [])) (sym c.go_on.ensures.disk) more;
      durable = λ tells. subst (λ d. Only (disks.view d).contents (disks.images d)) (sym c.go_on.ensures.disk) (c.in-Ok.ensures.durable tells);
    }

pub returns-in-Ok-clause-left : goal.returns-in-Ok-clause-left
returns-in-Ok-clause-left g c = λ bodies body has form.
    let disks = g.D.Disk in
    let log = c.args.self.now in
    let wrote = c.write_frame.ensures in
    subst (λ d. LeavesFiles disks log.disk d (StandsWithOrWithout bodies body)) (sym c.go_on.ensures.disk)
    (leaves_written g.met.D.Disk.images_told log bodies body has (λ tells image was. g.met.D.Disk.only_now log.disk image tells was) c.write_frame.new.disk log.inside
    (λ told ends. wrote.left told bodies body ends form) (λ tells ends only. (wrote.crash tells bodies body ends only form, wrote.time tells bodies body ends only form)))

pub returns-in-Err-clause-left : goal.returns-in-Err-clause-left
returns-in-Err-clause-left g c = λ bodies body has form.
    let log = c.args.self.now in
    let wrote = c.write_frame.ensures in
    leaves_written g.met.D.Disk.images_told log bodies body has (λ tells image was. g.met.D.Disk.only_now log.disk image tells was) c.write_frame.new.disk log.inside
    (λ told ends. wrote.left told bodies body ends form) (λ tells ends only. (wrote.crash tells bodies body ends only form, wrote.time tells bodies body ends only form))

use Rattle.std.proofs.Common.{◌≡◌, sym, ap, ◌∙◌}
use Rattle.std.specs.Prelude.{Err}
use Rattle.zb_store.specs.Scan.{disk_of_scan}
use Rattle.zb_partition.specs.declared.fault.OpenFault.TheVariants.{BadLog}
use Rattle.zb_partition.proofs.FrameLemmas.{read_more, bad_frame}
use Rattle.zb_partition.proofs.opening.read_next.Goals as goal

pub returns-in-Ok-clause-read : goal.returns-in-Ok-clause-read
returns-in-Ok-clause-read g c = λ p log read.
    let view = g.D.Disk.view in
    let old = c.args.scan.now in
    let new = c.advance.new.self in
    let batch = c.in-Ok.ensures.read p log read.knows in
    let goes = rw c.in-Frame.is at c.in_ok-advance.ensures.goes in (
      batch.0,
      read_more p (view (disk_of_scan old)).contents (view (disk_of_scan new)).contents old new log c.args.known.now c.read_body.new.known batch.0 read goes
          (λ bodies told has. rw c.in-Frame.is at c.in_ok-advance.ensures.found told bodies has) (sym c.body.ensures ∙ batch.1) batch.2,
    )

pub returns-in-Err-clause-bad : goal.returns-in-Err-clause-bad
returns-in-Err-clause-bad g c = λ told p log n read is.
    let view = g.D.Disk.view in
    let old = c.args.scan.now in
    let new = c.advance.new.self in
    let at : c.in-Err.fault ≡ BadLog n = cc in
    let refused = c.in-Err.ensures.bad p log n read.knows (ap Err at) in
    bad_frame p (view (disk_of_scan old)).contents (view (disk_of_scan new)).contents old new log c.args.known.now told (c.in_ok-advance.ensures.reads.same told) read n (refused.0 ∙ c.count-frame.ensures)
    (λ bodies has. rw c.in-Frame.is at c.in_ok-advance.ensures.found told bodies has) (rw c.body.ensures at refused.1)

use Rattle.std.proofs.Common.{List, ℕ, sym, ◌∙◌, subst}
use Rattle.zb_partition.specs.Log.{bodies_of}
use Rattle.zb_store.specs.GateLog.{disk_of_log, HasClosedFrames}
use Rattle.zb_tally.proofs.counting.open_log.Goals as goal

pub returns-then-whole : goal.returns-then-whole
returns-then-whole g c = λ tells all stood.
    let file = (g.D.Disk.view (disk_of_log c.in-Ok.log)).contents in
    let opened = c.in-Ok.ensures.whole tells (sym c.whole.ensures ∙ c.if-whole.true) in
    let same = c.one_reading.ensures.one (g.D.Disk.view c.args.disk).contents opened.0 (bodies_of all) opened.1 stood in
    subst (λ (bodies : List (List ℕ)). HasClosedFrames file c.in-Ok.log bodies) same opened.2

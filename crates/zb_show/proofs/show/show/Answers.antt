use Rattle.std.proofs.Common.{List, ℕ, sym, ◌∙◌, subst, arith}
use Rattle.zb_partition.specs.Log.{bodies_of}
use Rattle.zb_store.proofs.CallLaws.{opens_then}
use Rattle.zb_store.specs.GateLog.{disk_of_log, HasClosedFrames}
use Rattle.zb_show.specs.Lines.{log_lines}
use Rattle.zb_show.specs.Status.{IsBadLog}
use Rattle.zb_show.specs.declared.fault.ShowFault.TheVariants as faults
use Rattle.zb_show.proofs.ShowLemmas.{written_none, store_cause, store_good, err_since}
use Rattle.zb_show.proofs.show.show.Goals as goal

pub returns-clause-shown : goal.returns-clause-shown
returns-clause-shown g c = λ tells told all stood fits.
    let file = (g.D.Disk.view (disk_of_log c.in-Ok.log)).contents in
    let opened = c.in-Ok.ensures.whole tells (sym c.if-not-whole.ensures) in
    let same = c.one_reading.ensures.one (g.D.Disk.view c.args.disk).contents opened.0 (bodies_of all) opened.1 stood in
    c.print_log-shown.ensures.shown tells told all (subst (λ (bodies : List (List ℕ)). HasClosedFrames file c.in-Ok.log bodies) same opened.2) fits

pub returns-clause-good : goal.returns-clause-good
returns-clause-good g c = λ tells all stood fits.
    let file = (g.D.Disk.view (disk_of_log c.in-Ok.log)).contents in
    let opened = c.in-Ok.ensures.whole tells (sym c.if-not-whole.ensures) in
    let same = c.one_reading.ensures.one (g.D.Disk.view c.args.disk).contents opened.0 (bodies_of all) opened.1 stood in
    c.print_log-shown.ensures.good tells all (subst (λ (bodies : List (List ℕ)). HasClosedFrames file c.in-Ok.log bodies) same opened.2) fits

pub returns-clause-opens : goal.returns-clause-opens
returns-clause-opens g c = rw c.into_disk-2.ensures
    (opens_then g.D.Disk c.args.disk (disk_of_log c.in-Ok.log) (disk_of_log c.print_log-shown.new.log) c.in-Ok.ensures.opens c.print_log-shown.ensures.reads)

pub returns-clause-cause : goal.returns-clause-cause
returns-clause-cause g c = rw c.into_disk-2.ensures
    (err_since _ _ _ _ _ _ c.print_log-shown.result c.in-Ok.ensures.opens.later (omega arith) c.print_log-shown.ensures.cause)

-- a file that stands for a log isn't cut
pub returns-then-not-whole-clause-good : goal.returns-then-not-whole-clause-good
returns-then-not-whole-clause-good g c = λ tells all stood fits bad.
    let cut = c.in-Ok.ensures.cut tells (sym c.whole.ensures ∙ c.if-not-whole.true) in
    c.one_reading.ensures.not_both (g.D.Disk.view c.args.disk).contents (bodies_of all) cut.0 stood cut.1

pub returns-in-Err-clause-good : goal.returns-in-Err-clause-good
returns-in-Err-clause-good g c = λ tells all stood fits bad. store_good c.in-Err.fault (subst (λ fault. IsBadLog (faults.Log fault)) c.from.ensures bad)

pub returns-in-Err-clause-cause : goal.returns-in-Err-clause-cause
returns-in-Err-clause-cause g c = rw c.from.ensures (store_cause g.D.Disk.counts_failures (g.D.Disk.view c.args.disk).faults (g.D.Disk.view c.in-Err.disk).faults (g.K.Sink.view c.args.sink.now).faults c.in-Err.fault c.in-Err.ensures.cause)

-- nothing was written where it could not be opened again
pub returns-in-Err-clause-shown : goal.returns-in-Err-clause-shown
returns-in-Err-clause-shown g c = λ tells told all stood fits. (log_lines c.args.place all, written_none (log_lines c.args.place all) (g.K.Sink.view c.args.sink.now).written, tt)

pub returns-then-not-whole-clause-shown : goal.returns-then-not-whole-clause-shown
returns-then-not-whole-clause-shown g c = λ tells told all stood fits. (log_lines c.args.place all, written_none (log_lines c.args.place all) (g.K.Sink.view c.args.sink.now).written, tt)

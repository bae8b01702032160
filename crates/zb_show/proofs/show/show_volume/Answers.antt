use Rattle.std.proofs.Common.{◌≡◌, ◌≤◌, inl, inr, refl, ap, sym, ◌∙◌, subst, arith}
use Rattle.zb_partition.specs.Log.{bodies_of}
use Rattle.zb_partition.proofs.OpeningLemmas.{has_found}
use Rattle.zb_store.specs.GateLog.{disk_of_log, file_of_log}
use Rattle.zb_store.proofs.GateLogLaws.{log_stands}
use Rattle.zb_store.specs.Stands.{Stands}
use Rattle.zb_store.proofs.CallLaws.{Opens}
use Rattle.zb_show.specs.Lines.{log_lines}
use Rattle.zb_show.proofs.ShowLemmas.{opens_again, frame_of, open_cause, of_opening, of_opened, told_written, err_then, err_since}
use Rattle.zb_show.proofs.show.show_volume.Goals as goal

pub returns-in-Err-clause-bad : goal.returns-in-Err-clause-bad
returns-in-Err-clause-bad g c = λ tells bad.
    let frame = frame_of c.in-Err.fault bad in
    (frame.0, c.in-Err.ensures.bad tells frame.0 frame.1)

-- nothing was written
pub returns-in-Err-clause-opened : goal.returns-in-Err-clause-opened
returns-in-Err-clause-opened g c = λ tells. inl (refl, of_opening c.in-Err.fault)

pub returns-in-Err-clause-cause : goal.returns-in-Err-clause-cause
returns-in-Err-clause-cause g c = open_cause g.D.Disk.counts_failures (g.D.Disk.view c.args.volume.log).faults (g.D.Disk.view c.in-Err.volume.log).faults (g.K.Sink.view c.args.sink).faults
    c.in-Err.fault c.in-Err.ensures.cause

pub returns-in-Err-clause-slots : goal.returns-in-Err-clause-slots
returns-in-Err-clause-slots g c =
    (ap (λ (slots : g.row.D.Denot × g.row.D.Denot). slots.0) c.in-Err.ensures.slots, ap (λ (slots : g.row.D.Denot × g.row.D.Denot). slots.1) c.in-Err.ensures.slots)

-- the log that was opened is the one that is shown
pub returns-clause-opened : goal.returns-clause-opened
returns-clause-opened g c = λ tells.
    let opened = c.in-Ok.ensures.opened in
    let log = opened.0.found.tail in
    let is = opened.2 in
    let file = (g.D.Disk.view c.args.volume.log).contents in
    let has = has_found c.args.place file opened.0 c.in-Ok.partition is opened.3 in
    let stands = log_stands (file_of_log c.in-Ok.partition.log) c.in-Ok.partition.log (bodies_of log) (has.frames.file tells) in
    let there : Stands (g.D.Disk.view c.stopped-volume.result.volume.log).contents (bodies_of log) =
    subst (λ d. Stands (g.D.Disk.view d).contents (bodies_of log)) (sym c.stopped-volume.ensures.log) stands in
    let shown = c.show-shown.result.0 in
    let told = told_written g.K.Sink.tells shown (log_lines c.args.place log) (g.K.Sink.view c.args.sink).written (g.K.Sink.view c.show-shown.new.sink).written (λ told. c.show-shown.ensures.shown tells told log there is.fits) in
    inr (
      of_opened _ _ _ _ shown c.show-shown.ensures.cause (c.show-shown.ensures.good tells log there is.fits),
      (told.0, record { log = log; stood = is.stood tells; fits = is.fits; applied = is.applied; lines = told.1 }, told.2),
    )

pub returns-clause-bad : goal.returns-clause-bad
returns-clause-bad g c = λ tells.
    let opened = c.in-Ok.ensures.opened in
    let log = opened.0.found.tail in
    let is = opened.2 in
    let file = (g.D.Disk.view c.args.volume.log).contents in
    let has = has_found c.args.place file opened.0 c.in-Ok.partition is opened.3 in
    let stands = log_stands (file_of_log c.in-Ok.partition.log) c.in-Ok.partition.log (bodies_of log) (has.frames.file tells) in
    let there : Stands (g.D.Disk.view c.stopped-volume.result.volume.log).contents (bodies_of log) =
    subst (λ d. Stands (g.D.Disk.view d).contents (bodies_of log)) (sym c.stopped-volume.ensures.log) stands in
    err_then c.show-shown.result.0 (λ fault none bad. absurd (none bad)) (c.show-shown.ensures.good tells log there is.fits)

pub returns-clause-cause : goal.returns-clause-cause
returns-clause-cause g c =
    let same : (g.D.Disk.view c.stopped-volume.result.volume.log).faults ≡ (g.D.Disk.view (disk_of_log c.in-Ok.partition.log)).faults = ap (λ d. (g.D.Disk.view d).faults) c.stopped-volume.ensures.log in
    let later : (g.D.Disk.view c.args.volume.log).faults ≤ (g.D.Disk.view c.stopped-volume.result.volume.log).faults = omega (arith, same, c.in-Ok.ensures.opens.later) in
    err_since (g.D.Disk.view c.args.volume.log).faults (g.D.Disk.view c.stopped-volume.result.volume.log).faults (g.D.Disk.view c.show-shown.result.1).faults
    (g.K.Sink.view c.args.sink).faults (g.K.Sink.view c.args.sink).faults (g.K.Sink.view c.show-shown.new.sink).faults c.show-shown.result.0 later (omega arith) c.show-shown.ensures.cause

pub returns-clause-slots : goal.returns-clause-slots
returns-clause-slots g c =
    let both = c.stopped-volume.ensures.slots ∙ c.in-Ok.ensures.slots in
    (ap (λ (slots : g.row.D.Denot × g.row.D.Denot). slots.0) both, ap (λ (slots : g.row.D.Denot × g.row.D.Denot). slots.1) both)

pub returns-clause-opens : goal.returns-clause-opens
returns-clause-opens g c =
    let disk = c.stopped-volume.result.volume.log in
    let first = subst (λ d. Opens g.D.Disk c.args.volume.log d) (sym c.stopped-volume.ensures.log) c.in-Ok.ensures.opens in
    opens_again g.D.Disk g.met.D.Disk.images_told c.args.volume.log disk c.show-shown.result.1 first c.show-shown.ensures.opens

use Rattle.std.proofs.Common.{[]}
use Rattle.zb_store.proofs.CallLaws.{opens_then, settles_read, on_ok}
use Rattle.zb_store.specs.GateLog.{disk_after_log}
use Rattle.zb_store.proofs.OpeningLemmas.{whole_opened, cut_opened, since_standing}
use Rattle.zb_store.proofs.gate_log.GateLog.open.Goals as goal

pub returns-in-Ok-clause-whole : goal.returns-in-Ok-clause-whole
returns-in-Ok-clause-whole g c = λ told.
    let view = g.D.Disk.view in
    whole_opened (view c.args.disk).contents (view c.in-Ok.scan.disk).contents c.run.result (c.run.ensures.reads.same told)
    (c.in-Ok.ensures.stood told) (c.run.ensures.whole told [] (c.in-Ok.ensures.none told))

pub returns-in-Ok-clause-cut : goal.returns-in-Ok-clause-cut
returns-in-Ok-clause-cut g c = λ told.
    let view = g.D.Disk.view in
    cut_opened (view c.args.disk).contents (view c.in-Ok.scan.disk).contents c.run.result (c.run.ensures.reads.same told)
    (c.in-Ok.ensures.was_cut told) (c.run.ensures.cut told [] (c.in-Ok.ensures.none told))

pub returns-in-Ok-clause-since : goal.returns-in-Ok-clause-since
returns-in-Ok-clause-since g c = λ told bodies.
    let disks = g.D.Disk in
    let laws = g.met.D.Disk in
    let old = c.args.disk in
    let new = disk_after_log c.run.result in
    let opens = opens_then disks old c.in-Ok.scan.disk new c.in-Ok.ensures.opens c.run.ensures.reads in
    since_standing (disks.view old).moment (disks.view new).moment (disks.since old) (disks.since new) (disks.view old).contents (disks.images old) bodies
    (opens.time told) (λ f was. laws.only_now old f told was) (laws.reads_image old told)

pub returns-in-Ok-clause-settled : goal.returns-in-Ok-clause-settled
returns-in-Ok-clause-settled g c = λ tells.
    let disks = g.D.Disk in
    let old = c.args.disk in
    let mid = c.in-Ok.scan.disk in
    on_ok c.run.result _
    (settles_read disks (disks.view old).moment (disks.images old) _ mid (disk_after_log c.run.result) tells (λ t f le is. g.met.D.Disk.counts_now mid t f tells le is) (c.in-Ok.ensures.settled tells) c.run.ensures.reads)

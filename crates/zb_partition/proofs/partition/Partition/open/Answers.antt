use Rattle.std.proofs.Common.{◌∙◌}
use Rattle.std.proofs.lemmas.Result.{IfErr-weaker, IfOk-weaker, on_ok_weaker}
use Rattle.zb_store.proofs.CallLaws.{opens_then, settles_read, settles_weaker}
use Rattle.zb_store.specs.Scan.{disk_of_scan}
use Rattle.zb_partition.specs.Log.{bodies_of}
use Rattle.zb_partition.specs.Opening.{disk_after}
use Rattle.zb_partition.proofs.OpeningLemmas.{bad_before, stands_open, opened_whole}
use Rattle.zb_partition.proofs.partition.Partition.open.Goals as goal

pub returns-in-Ok-clause-bad : goal.returns-in-Ok-clause-bad
returns-in-Ok-clause-bad g c = λ told frame.
    IfErr-weaker c.over.result _ _ (λ refused bad at. bad_before g.D.Disk c.args.place frame c.args.volume.log (disk_of_scan c.in-Ok.scan) c.in-Ok.ensures.opens told (bad at)) (c.over.ensures.bad told frame)

pub returns-in-Ok-clause-opens : goal.returns-in-Ok-clause-opens
returns-in-Ok-clause-opens g c = opens_then g.D.Disk c.args.volume.log (disk_of_scan c.in-Ok.scan) (disk_after c.over.result) c.in-Ok.ensures.opens c.over.ensures.reads

-- what was found in the file that is opened was found in the one that was there
pub returns-in-Ok-clause-opened : goal.returns-in-Ok-clause-opened
returns-in-Ok-clause-opened g c =
    let disks = g.D.Disk in
    let laws = g.met.D.Disk in
    let old = c.args.volume.log in
    let mid = disk_of_scan c.in-Ok.scan in
    let new = disk_after c.over.result in
    let said = c.over.ensures in
    opened_whole c.args.volume c.args.place c.args.partitions c.args.limit mid laws.images_told c.in-Ok.ensures.opens (λ told log stands. c.in-Ok.ensures.stood told (bodies_of log) stands) c.over.result
    said.opened said.place said.partitions (IfOk-weaker c.over.result _ _ (λ partition same. same ∙ c.in-Ok.ensures.limit) said.limit) said.live said.reads
    (λ counts. on_ok_weaker c.over.result (λ steady. steady ∙ c.in-Ok.ensures.steady counts) (said.steady counts)) said.slots
    (λ tells log stands.
    settles_weaker (disks.view old).moment (disks.view new).moment (disks.images old) (disks.since new) _ _ (λ image. stands_open (disks.view old).contents image (bodies_of log) stands)
    (settles_read disks (disks.view old).moment (disks.images old) _ mid new tells (λ t f le is. laws.counts_now mid t f tells le is) (c.in-Ok.ensures.settled tells) said.reads))

use Rattle.std.proofs.Common.{◌∙◌}
use Rattle.zb_store.proofs.Settling.{measured, settled_open}
use Rattle.zb_store.proofs.preparing.prepare.Goals as goal

pub returns-then-end-gt1-clause-settled : goal.returns-then-end-gt1-clause-settled
returns-then-end-gt1-clause-settled g c = λ tells.
    let laws = g.met.D.Disk in
    measured g.D.Disk (λ disk f was. laws.only_now disk f tells was) (λ disk t f le is. laws.counts_now disk t f tells le is) c.args.disk.now c.sync.new.self c.len.new.self
    (c.in_ok-sync.ensures.time tells) (c.in_ok-sync.ensures.durable tells) (c.in_ok-sync.ensures.same (laws.images_told tells))
    (c.in_ok-end.ensures.time tells) (c.in_ok-end.ensures.crash tells)

pub returns-clause-settled : goal.returns-clause-settled
returns-clause-settled g c = λ tells.
    let disks = g.D.Disk in
    let laws = g.met.D.Disk in
    let old = c.args.disk.now in
    let told = laws.images_told tells in
    let first = measured disks (λ disk f was. laws.only_now disk f tells was) (λ disk t f le is. laws.counts_now disk t f tells le is) old c.sync.new.self c.len.new.self
    (c.in_ok-sync.ensures.time tells) (c.in_ok-sync.ensures.durable tells) (c.in_ok-sync.ensures.same told) (c.in_ok-end.ensures.time tells) (c.in_ok-end.ensures.crash tells) in
    settled_open disks (λ disk f was. laws.only_now disk f tells was) (λ disk t f le is. laws.counts_now disk t f tells le is) (disks.view old).moment (disks.view old).contents (disks.images old) c.len.new.self c.make_gate.new.disk tells
    (c.in_ok-end.ensures.same told ∙ c.in_ok-sync.ensures.same told) first c.in_ok-make_gate.ensures.opens

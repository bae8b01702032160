use Rattle.std.proofs.Common.{length, inl, inr}
use Rattle.std.proofs.lemmas.Result.{on_ok_weaker}
use Rattle.zb_store.proofs.CallLaws.{leaves_weaker, leaves_then}
use Rattle.zb_store.proofs.AppendLemmas.{awaits, ends_standing, ends_kept, gate_torn, gate_opened, left_behind, left_on}
use Rattle.zb_store.proofs.writing.write_frame.Goals as goal

pub returns-in_err-write_through-clause-left : goal.returns-in_err-write_through-clause-left
returns-in_err-write_through-clause-left g c = λ told bodies body ends form.
    let view = g.D.Disk.view in
    let file = (view c.args.disk.now).contents in
    let new = (view c.write_through.new.disk).contents in
    inl (ends_standing new bodies c.args.gate (ends_kept file new bodies c.args.gate (length c.args.frame.now) ends (c.write_through.ensures.torn told)))

pub returns-in_err-write_through-clause-crash : goal.returns-in_err-write_through-clause-crash
returns-in_err-write_through-clause-crash g c = λ told bodies body ends only form image left.
    let disks = g.D.Disk in
    let old = c.args.disk.now in
    left_behind (disks.view old).contents image bodies body c.args.gate (length c.args.frame.now) (disks.images old) ends only (c.write_through.ensures.crash told image left)

pub returns-in_err-write_through-clause-time : goal.returns-in_err-write_through-clause-time
returns-in_err-write_through-clause-time g c = λ told bodies body ends only form.
    let disks = g.D.Disk in
    let old = c.args.disk.now in
    let new = c.write_through.new.disk in
    leaves_weaker (disks.view old).moment (disks.view new).moment (disks.since old) (disks.since new) _ _
    (λ image left. left_behind (disks.view old).contents image bodies body c.args.gate (length c.args.frame.now) (disks.images old) ends only left)
    (c.write_through.ensures.time told)

pub returns-clause-written : goal.returns-clause-written
returns-clause-written g c = λ told bodies body ends form.
    let view = g.D.Disk.view in
    let file = (view c.args.disk.now).contents in
    let mid = (view c.write_through.new.disk).contents in
    let new = (view c.write_through-2.new.disk).contents in
    let frame = c.args.frame.now in
    let ready = awaits file mid frame body bodies c.args.gate ends form c.requires.fits (c.in_ok-write_through.ensures.written told) (c.write_through.ensures.torn told) in
    on_ok_weaker c.write_through-2.result
    (gate_opened mid new frame body bodies c.args.gate ready form (c.write_through-2.ensures.torn told))
    (c.write_through-2.ensures.written told)

pub returns-clause-left : goal.returns-clause-left
returns-clause-left g c = λ told bodies body ends form.
    let view = g.D.Disk.view in
    let file = (view c.args.disk.now).contents in
    let mid = (view c.write_through.new.disk).contents in
    let new = (view c.write_through-2.new.disk).contents in
    let frame = c.args.frame.now in
    let ready = awaits file mid frame body bodies c.args.gate ends form c.requires.fits (c.in_ok-write_through.ensures.written told) (c.write_through.ensures.torn told) in
    gate_torn mid new body bodies c.args.gate ready (c.write_through-2.ensures.torn told)

pub returns-clause-crash : goal.returns-clause-crash
returns-clause-crash g c = λ tells bodies body ends only form image left.
    let told = g.met.D.Disk.images_told tells in
    let view = g.D.Disk.view in
    let file = (view c.args.disk.now).contents in
    let mid = (view c.write_through.new.disk).contents in
    let frame = c.args.frame.now in
    let ready = awaits file mid frame body bodies c.args.gate ends form c.requires.fits (c.in_ok-write_through.ensures.written told) (c.write_through.ensures.torn told) in
    left_on mid image body bodies c.args.gate (g.D.Disk.images c.write_through.new.disk) ready (c.in_ok-write_through.ensures.durable tells) (c.write_through-2.ensures.crash tells image left)

pub returns-clause-time : goal.returns-clause-time
returns-clause-time g c = λ tells bodies body ends only form.
    let disks = g.D.Disk in
    let told = g.met.D.Disk.images_told tells in
    let old = c.args.disk.now in
    let between = c.write_through.new.disk in
    let new = c.write_through-2.new.disk in
    let file = (disks.view old).contents in
    let mid = (disks.view between).contents in
    let frame = c.args.frame.now in
    let ready = awaits file mid frame body bodies c.args.gate ends form c.requires.fits (c.in_ok-write_through.ensures.written told) (c.write_through.ensures.torn told) in
    leaves_weaker (disks.view old).moment (disks.view new).moment (disks.since old) (disks.since new) _ _
    (λ image left. elim left [
      | inl behind ↦ left_behind file image bodies body c.args.gate (length frame) (disks.images old) ends only behind
      | inr on ↦ left_on mid image body bodies c.args.gate (disks.images between) ready (c.in_ok-write_through.ensures.durable tells) on
    ])
    (leaves_then (disks.view old).moment (disks.view between).moment (disks.view new).moment (disks.since old) (disks.since between) (disks.since new) _ _
    (c.write_through.ensures.time tells) (c.write_through-2.ensures.time tells))

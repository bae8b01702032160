use Rattle.std.proofs.Common.{refl, sym, ap, ◌∙◌, arith, subst}
use Rattle.zb_disk.specs.contracts.sound.SoundDiskDisk.TheImpl as sound
use Rattle.zb_tally.specs.Served.{IsWorkloadRun}
use Rattle.zb_tally.proofs.RunLemmas.{same_setting, workload_run, served_logs, IsEndBy, ends_by, fault_by}
use Rattle.zb_tally.proofs.serving.serve_workload.Goals as goal

pub serve_by-cause-requires-clause-some : goal.serve_by-cause-requires-clause-some
serve_by-cause-requires-clause-some c = omega (arith, c.in-Some.ensures.many, c.requires.some)

pub serve_by-cause-requires-clause-few : goal.serve_by-cause-requires-clause-few
serve_by-cause-requires-clause-few c = omega (arith, c.in-Some.ensures.many, c.requires.few)

pub returns-in-Ok-ended-clause-served : goal.returns-in-Ok-ended-clause-served
returns-in-Ok-ended-clause-served c =
    let cause = c.serve_by-cause.result.cause in
    let by = c.serve_plan-by.ensures in
    let input = ap (λ v. v.left) c.new-2.ensures.view ∙ c.in-Ok.ensures in
    let run : IsWorkloadRun sound.ghosts c.args.plan c.serve_by-cause.result.volumes.items cause =
    workload_run sound.ghosts c.args.plan _ _ _ c.in-Some.volumes.items c.serve_by-cause.result.volumes.items cause _ c.serve_by-cause.result.units (same_setting c.serve_plan-by.result _ _ by.limit by.units by.clock) (refl, refl, refl) input
    c.in-Some.ensures.many c.in-Some.ensures.empty c.serve_by-cause.ensures.same c.serve_by-cause.ensures.run in
    subst (IsWorkloadRun sound.ghosts c.args.plan c.serve_by-cause.result.volumes.items) (subst (IsEndBy cause) (sym c.run_end-ended.ensures ∙ c.in-Ok-ended.is) (ends_by cause)) run

pub returns-in-Ok-ended-clause-logs : goal.returns-in-Ok-ended-clause-logs
returns-in-Ok-ended-clause-logs c = served_logs sound.ghosts (λ disk. refl) c.args.plan c.serve_by-cause.result.volumes.items (returns-in-Ok-ended-clause-served c)

pub returns-in-Ok-ended-clause-few : goal.returns-in-Ok-ended-clause-few
returns-in-Ok-ended-clause-few c = omega (arith, c.serve_by-cause.ensures.same, c.in-Some.ensures.many, c.requires.few)

-- the next entry didn't fit, or memory was wanting
pub returns-clause-fault : goal.returns-clause-fault
returns-clause-fault c =
    let cause = c.serve_by-cause.result.cause in
    let by = c.serve_plan-by.ensures in
    let input = ap (λ v. v.left) c.new-2.ensures.view ∙ c.in-Ok.ensures in
    let run : IsWorkloadRun sound.ghosts c.args.plan c.serve_by-cause.result.volumes.items cause =
    workload_run sound.ghosts c.args.plan _ _ _ c.in-Some.volumes.items c.serve_by-cause.result.volumes.items cause _ c.serve_by-cause.result.units (same_setting c.serve_plan-by.result _ _ by.limit by.units by.clock) (refl, refl, refl) input
    c.in-Some.ensures.many c.in-Some.ensures.empty c.serve_by-cause.ensures.same c.serve_by-cause.ensures.run in
    fault_by sound.ghosts c.args.plan c.serve_by-cause.result.volumes.items cause c.in-Err.fault (subst (IsEndBy cause) (sym c.run_end-ended.ensures ∙ c.in-Err.is) (ends_by cause)) run

use Rattle.std.proofs.Common.{◌≡◌, ◌==◌, Option, Some, IfOk, sym, ap, subst, ◌∙◌}
use Rattle.std.specs.List.{find}
use Rattle.std.specs.Option.{option_map_or}
use Rattle.zb_model.specs.declared.record.Rejection.{Rejection}
use Rattle.zb_views.specs.declared.job.Job.{Job}
use Rattle.zb_rules.specs.JobReasons.{reason_in, unknown_job}
use Rattle.zb_step.proofs.ending.reason.Goals as goal

pub returns-in-Some : goal.returns-in-Some
returns-in-Some c = λ es is.
    let key = c.args.key in
    subst (λ (r : Option Rejection). IfOk c.reason_in.result (λ rejection. rejection ≡ r))
    (ap (λ (o : Option Job). option_map_or (λ (j : Job). reason_in key j.phase) o (Some (unknown_job key))) (c.in-Some.ensures.job ∙ ap (find (λ (j : Job). j.key == key)) (sym (c.jobs.ensures es is))))
    c.reason_in.ensures

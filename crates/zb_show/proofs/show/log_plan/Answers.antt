use Rattle.std.proofs.Common.{inr, refl, map, string_bytes}
use Rattle.zb_words.specs.declared.plan.Plan.TheVariants as plans
use Rattle.zb_show.proofs.ShowLemmas.{no_log, no_log_either}
use Rattle.zb_show.proofs.show.log_plan.Goals as goal

pub returns-in-Ok-Serve-clause-fault : goal.returns-in-Ok-Serve-clause-fault
returns-in-Ok-Serve-clause-fault c =
    let planned = rw c.in-Ok-Serve.field-0-is at c.in-Ok-Serve.ensures.planned in
    inr (refl, λ plan is. no_log (map string_bytes c.args.words.now) planned.0 plan planned.1 is)

pub returns-in-Ok-Gen-clause-fault : goal.returns-in-Ok-Gen-clause-fault
returns-in-Ok-Gen-clause-fault c =
    let planned = rw c.in-Ok-Gen.field-0-is at c.in-Ok-Gen.ensures.planned in
    inr (refl, λ plan is. no_log_either (map string_bytes c.args.words.now) planned.0 plan planned.1 is)

pub returns-in-Err-Usage-clause-fault : goal.returns-in-Err-Usage-clause-fault
returns-in-Err-Usage-clause-fault c = inr (refl, λ plan is. c.in-Err-Usage.ensures.unplanned c.in-Err-Usage.field-0-is (plans.Log plan) is)

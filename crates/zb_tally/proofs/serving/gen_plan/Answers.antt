use Rattle.zb_words.specs.declared.plan.Plan.TheVariants as plans
use Rattle.zb_tally.proofs.serving.gen_plan.Goals as goal

pub returns-in-Err-Usage-clause-fault : goal.returns-in-Err-Usage-clause-fault
returns-in-Err-Usage-clause-fault c = λ plan is. c.in-Err-Usage.ensures.unplanned c.in-Err-Usage.field-0-is (plans.Gen plan) is

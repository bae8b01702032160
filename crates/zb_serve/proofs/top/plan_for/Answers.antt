use Rattle.std.proofs.Common.{◌≤◌, length, sym, subst, ap, ◌∙◌, map, string_bytes}
use Rattle.std.proofs.lemmas.Bool.{false≢true}
use Rattle.zb_words.specs.Plan.{IsPlan}
use Rattle.zb_words.specs.declared.plan.Plan.TheVariants as plans
use Rattle.zb_words.specs.declared.plan.ServePlan.{ServePlan}
use Rattle.zb_serve.proofs.SessionLemmas.{one_served}
use Rattle.zb_serve.proofs.top.plan_for.Goals as goal

-- another plan would be this one, by which so many sessions and volumes can't be served
pub returns-in-Ok-Serve-clause-unplanned : goal.returns-in-Ok-Serve-clause-unplanned
returns-in-Ok-Serve-clause-unplanned c = λ usage plan planned.
    let words = map string_bytes c.args.words.now in
    let its : IsPlan words (plans.Serve c.in-Ok-Serve.plan) = subst (IsPlan words) c.in-Ok-Serve.field-0-is c.in-Ok-Serve.ensures.planned in
    let same = one_served words c.in-Ok-Serve.plan plan its planned.words in
    let may = c.can_serve.ensures.1 (planned.one_session, planned.a_volume_each ∙ sym (ap (λ (p : ServePlan). p.partitions) same), subst (λ (p : ServePlan). length p.files ≤ 2) (sym same) planned.one_pair) in
    false≢true (sym c.if-can_serve.false ∙ may)

pub returns-clause-unplanned : goal.returns-clause-unplanned
returns-clause-unplanned c = λ usage plan planned. c.in-Err.ensures.unplanned usage (plans.Serve plan) planned.words

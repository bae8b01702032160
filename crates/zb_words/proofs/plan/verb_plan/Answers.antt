use Rattle.std.proofs.Common.{map, string_bytes, subst, sym}
use Rattle.clap.specs.Words.{found_of, rows_of}
use Rattle.zb_words.specs.declared.verb.Verb.{Verb}
use Rattle.zb_words.specs.declared.plan.Plan.TheVariants as plans
use Rattle.zb_words.specs.App.{IsMatched, IsPlanOf}
use Rattle.zb_words.proofs.WordLaws.{of_gen, of_log, of_serve}
use Rattle.zb_words.proofs.plan.verb_plan.Goals as goal

pub serve_plan-requires : goal.serve_plan-requires
serve_plan-requires c = record { taken = subst (λ (v : Verb). IsMatched v (map string_bytes c.args.words.now) (rows_of (found_of c.args.asked.now))) c.in-Serve.is c.requires.taken }

pub returns-in-Ok-clause-planned : goal.returns-in-Ok-clause-planned
returns-in-Ok-clause-planned c = subst (λ (v : Verb). IsPlanOf v (map string_bytes c.args.words.now) (plans.Serve c.in-Ok.plan)) (sym c.in-Serve.is) c.in-Ok.ensures.planned

pub returns-in-Err-clause-unplanned : goal.returns-in-Err-clause-unplanned
returns-in-Err-clause-unplanned c = λ other plan is.
    let options = map string_bytes c.args.words.now in
    let its = of_serve options plan (subst (λ (v : Verb). IsPlanOf v options plan) c.in-Serve.is is) in
    c.in-Err.ensures.unplanned other its.0 its.1

pub log_plan-requires : goal.log_plan-requires
log_plan-requires c = record { taken = subst (λ (v : Verb). IsMatched v (map string_bytes c.args.words.now) (rows_of (found_of c.args.asked.now))) c.in-Log.is c.requires.taken }

pub returns-in-Ok-log_plan-clause-planned : goal.returns-in-Ok-log_plan-clause-planned
returns-in-Ok-log_plan-clause-planned c = subst (λ (v : Verb). IsPlanOf v (map string_bytes c.args.words.now) (plans.Log c.in-Ok-log_plan.plan)) (sym c.in-Log.is) c.in-Ok-log_plan.ensures.planned

pub returns-in-Err-log_plan-clause-unplanned : goal.returns-in-Err-log_plan-clause-unplanned
returns-in-Err-log_plan-clause-unplanned c = λ other plan is.
    let options = map string_bytes c.args.words.now in
    let its = of_log options plan (subst (λ (v : Verb). IsPlanOf v options plan) c.in-Log.is is) in
    c.in-Err-log_plan.ensures.unplanned other its.0 its.1

pub gen_plan-requires : goal.gen_plan-requires
gen_plan-requires c = record { taken = subst (λ (v : Verb). IsMatched v (map string_bytes c.args.words.now) (rows_of (found_of c.args.asked.now))) c.in-Gen.is c.requires.taken }

pub returns-in-Ok-gen_plan-clause-planned : goal.returns-in-Ok-gen_plan-clause-planned
returns-in-Ok-gen_plan-clause-planned c = subst (λ (v : Verb). IsPlanOf v (map string_bytes c.args.words.now) (plans.Gen c.in-Ok-gen_plan.plan)) (sym c.in-Gen.is) c.in-Ok-gen_plan.ensures.planned

pub returns-in-Err-gen_plan-clause-unplanned : goal.returns-in-Err-gen_plan-clause-unplanned
returns-in-Err-gen_plan-clause-unplanned c = λ other plan is.
    let options = map string_bytes c.args.words.now in
    let its = of_gen options plan (subst (λ (v : Verb). IsPlanOf v options plan) c.in-Gen.is is) in
    c.in-Err-gen_plan.ensures.unplanned other its.0 its.1

use Rattle.std.proofs.Common.{map, string_bytes}
use Rattle.clap.specs.Words.{app_of}
use Rattle.zb_words.proofs.PlanLemmas.{refused, takes_verb}
use Rattle.zb_words.proofs.plan.read.Goals as goal

pub plan_in-plan-requires : goal.plan_in-plan-requires
plan_in-plan-requires c = record { taken = takes_verb (app_of c.in_ok-app.app) (map string_bytes c.args.words.now) c.in-Ok.matches c.in_ok-app.ensures c.in-Ok.ensures.kinds c.in-Ok.ensures.matches }

pub returns-in-Err-clause-unplanned : goal.returns-in-Err-clause-unplanned
returns-in-Err-clause-unplanned c = refused (app_of c.in_ok-app.app) (map string_bytes c.args.words.now) c.in-Err.error c.in_ok-app.ensures c.in-Err.ensures.kinds

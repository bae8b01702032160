use Rattle.std.proofs.Common.{◌≡◌, List, Option, ap, sym, ◌∙◌}
use Rattle.std.proofs.lemmas.Result.{on_ok_weaker}
use Rattle.zb_base.specs.declared.vars.Variable.{Variable}
use Rattle.zb_model.specs.declared.record.Event.{Event}
use Rattle.zb_model.specs.declared.record.Event.TheVariants as events
use Rattle.zb_tokens.specs.declared.board.Assignments.{Assignments}
use Rattle.zb_rules.specs.Complete.{completed}
use Rattle.zb_rules.specs.InFront.{assigning}
use Rattle.zb_rules.specs.Making.{Making, just, and_then}
use Rattle.zb_rules.specs.Update.{set_each}
use Rattle.zb_state.specs.State.{IsStateOf}
use Rattle.zb_follow.proofs.MakerLemmas.{same_cant, same_put}
use Rattle.zb_step.proofs.complete.CompletedMaker.put.Goals as goal

-- the job is completed, and these are set
abbrev made : goal.After-put → List Variable → Making
made c vs = and_then (just (events.JobCompleted c.args.self.0.now.key)) (set_each c.in-Some.place.local c.in-Some.place.scope vs)

same : (c : goal.After-put) (es : List Event) → IsStateOf es c.args.state.now → made c c.as_slice-things.result.now es ≡ completed c.args.self.0.now es
same c es is =
    ap (λ (vs : List Variable). made c vs es) c.as_slice-things.ensures.value
    ∙ ap (λ (o : Option Assignments). and_then (just (events.JobCompleted c.args.self.0.now.key)) (assigning o) es) (sym (rw c.in-Some.is at (c.place_of.ensures es is)))

pub returns-in-Some-clause-ok : goal.returns-in-Some-clause-ok
returns-in-Some-clause-ok c =
    on_ok_weaker c.put.result (same_put (made c c.as_slice-things.result.now) (completed c.args.self.0.now) c.args.state.now c.put.new.state c.args.out.now c.put.new.out (same c)) c.put.ensures.ok

pub returns-in-Some-clause-misfit : goal.returns-in-Some-clause-misfit
returns-in-Some-clause-misfit c = λ misfit. same_cant (made c c.as_slice-things.result.now) (completed c.args.self.0.now) c.args.state.now (same c) (c.put.ensures.misfit misfit)

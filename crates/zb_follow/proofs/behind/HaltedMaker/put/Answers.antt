use Rattle.std.proofs.Common.{◌≡◌, List, [], ◌∷◌, ◌++◌, ap, sym}
use Rattle.std.proofs.lemmas.Result.{on_ok_weaker}
use Rattle.zb_model.specs.declared.record.Event.{Event}
use Rattle.zb_model.specs.declared.record.Event.TheVariants as events
use Rattle.zb_rules.specs.Behind.{halted_on}
use Rattle.zb_rules.specs.Making.{Making, just, and_then}
use Rattle.zb_state.specs.State.{IsStateOf}
use Rattle.zb_follow.specs.Behind.{ended_with}
use Rattle.zb_follow.proofs.MakerLemmas.{same_cant, same_put}
use Rattle.zb_follow.proofs.behind.HaltedMaker.put.Goals as goal

-- the event, and what waits for its cell as it was before
abbrev made : goal.After-put → Making
made c = and_then (just (events.ElementTerminating c.args.self.0)) (ended_with c.waiting_for-waiting.result.cell c.waiting_for-waiting.result.job)

same : (c : goal.After-put) (es : List Event) → IsStateOf es c.args.state.now → made c es ≡ halted_on c.args.self.0 es
same c es is = let e = events.ElementTerminating c.args.self.0 in ap (λ (l : List Event). e ∷ l) (sym (c.waiting_for-waiting.ensures es (es ++ e ∷ []) is))

pub returns-clause-ok : goal.returns-clause-ok
returns-clause-ok c = on_ok_weaker c.put.result (same_put (made c) (halted_on c.args.self.0) c.args.state.now c.put.new.state c.args.out.now c.put.new.out (same c)) c.put.ensures.ok

pub returns-clause-misfit : goal.returns-clause-misfit
returns-clause-misfit c = λ misfit. same_cant (made c) (halted_on c.args.self.0) c.args.state.now (same c) (c.put.ensures.misfit misfit)

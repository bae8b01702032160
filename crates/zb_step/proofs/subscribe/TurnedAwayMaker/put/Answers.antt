use Rattle.std.proofs.Common.{◌≡◌, ℕ, List, Option, subst}
use Rattle.std.proofs.lemmas.Result.{on_ok_weaker}
use Rattle.zb_model.specs.declared.record.Event.{Event}
use Rattle.zb_model.specs.declared.record.Event.TheVariants as events
use Rattle.zb_rules.specs.Correlate.{passed_to}
use Rattle.zb_rules.specs.Making.{Making, just, and_then}
use Rattle.zb_rules.specs.Subscribe.{turned_away}
use Rattle.zb_state.specs.State.{IsStateOf}
use Rattle.zb_follow.proofs.MakerLemmas.{same_cant, same_put}
use Rattle.zb_step.specs.Passing.{is_opened_for}
use Rattle.zb_step.proofs.SubscribeLemmas.{turned_as}
use Rattle.zb_step.proofs.subscribe.TurnedAwayMaker.put.Goals as goal

module _ (c : goal.After-put) where
  abbrev made : Making
  made = and_then (just (events.MessageSubscriptionRejected c.args.self.0)) (passed_to c.args.self.0.message c.in-Some.process)

  is_turned : (es : List Event) → IsStateOf es c.args.state.now → made es ≡ turned_away c.args.self.0 es
  is_turned es is = turned_as es c.args.self.0 c.in-Some.process (subst (λ (o : Option (List ℕ)). is_opened_for o c.args.self.0.subscription es) c.in-Some.is (c.in_ok-process.ensures es is))

pub returns-clause-ok : goal.returns-clause-ok
returns-clause-ok c =
    on_ok_weaker c.put.result (same_put (made c) (turned_away c.args.self.0) c.args.state.now c.put.new.state c.args.out.now c.put.new.out (is_turned c)) c.put.ensures.ok

pub returns-clause-misfit : goal.returns-clause-misfit
returns-clause-misfit c = λ misfit. same_cant (made c) (turned_away c.args.self.0) c.args.state.now (is_turned c) (c.put.ensures.misfit misfit)

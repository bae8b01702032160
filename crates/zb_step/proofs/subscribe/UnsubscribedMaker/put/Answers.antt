use Rattle.std.proofs.Common.{◌≡◌, List, Option, subst}
use Rattle.std.proofs.lemmas.Result.{on_ok_weaker}
use Rattle.zb_model.specs.declared.record.Event.{Event}
use Rattle.zb_model.specs.declared.record.Event.TheVariants as events
use Rattle.zb_rules.specs.Correlate.{passed_to}
use Rattle.zb_rules.specs.Making.{Making, just, and_then}
use Rattle.zb_rules.specs.Subscribe.{unsubscribed}
use Rattle.zb_state.specs.State.{IsStateOf}
use Rattle.zb_follow.proofs.MakerLemmas.{same_cant, same_put}
use Rattle.zb_step.specs.declared.correlate.PassedTo.{PassedTo}
use Rattle.zb_step.specs.Passing.{is_given_up}
use Rattle.zb_step.proofs.SubscribeLemmas.{deleted_as}
use Rattle.zb_step.proofs.subscribe.UnsubscribedMaker.put.Goals as goal

-- a message is given up, and passes on
module _ (c : goal.After-put) where
  abbrev made : Making
  made = and_then (just (events.MessageSubscriptionRejected (record { subscription = c.args.self.0.now.subscription; message = c.in-Some.next.message })))
      (and_then (just (events.MessageSubscriptionDeleted c.args.self.0.now.subscription)) (passed_to c.in-Some.next.message c.in-Some.next.process))

  is_deleted : (es : List Event) → IsStateOf es c.args.state.now → made es ≡ unsubscribed c.args.self.0.now es
  is_deleted es is = deleted_as es c.args.self.0.now c.in-Some.next (subst (λ (o : Option PassedTo). is_given_up o c.args.self.0.now es) c.in-Some.is (c.in_ok-next.ensures es is))

pub returns-in-Some-clause-ok : goal.returns-in-Some-clause-ok
returns-in-Some-clause-ok c =
    on_ok_weaker c.put.result (same_put (made c) (unsubscribed c.args.self.0.now) c.args.state.now c.put.new.state c.args.out.now c.put.new.out (is_deleted c)) c.put.ensures.ok

pub returns-in-Some-clause-misfit : goal.returns-in-Some-clause-misfit
returns-in-Some-clause-misfit c = λ misfit. same_cant (made c) (unsubscribed c.args.self.0.now) c.args.state.now (is_deleted c) (c.put.ensures.misfit misfit)

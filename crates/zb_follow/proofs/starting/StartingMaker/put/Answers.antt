use Rattle.std.proofs.Common.{◌≡◌, List, sym, ◌∙◌, rules}
use Rattle.std.proofs.lemmas.Result.{on_ok_weaker}
use Rattle.zb_model.specs.declared.record.Event.{Event}
use Rattle.zb_model.specs.declared.record.Event.TheVariants as events
use Rattle.zb_rules.specs.Create.{variable_event}
use Rattle.zb_rules.specs.Making.{Making, just, and_then, each_made}
use Rattle.zb_rules.specs.Starts.{started_of}
use Rattle.zb_state.specs.State.{partition_of, IsStateOf}
use Rattle.zb_follow.proofs.MakerLemmas.{same_cant, same_put}
use Rattle.zb_follow.proofs.StartingLemmas.{started_as}
use Rattle.zb_follow.proofs.starting.StartingMaker.put.Goals as goal

-- the instance begins
module _ (c : goal.After-put) where
  abbrev made : Making
  made = and_then (just (events.MessageStartEventSubscriptionCorrelated (record { message = c.args.self.message.now.key; definition = c.in-Some.definition; instance = c.next_key-key.result })))
      (and_then (just (events.ElementActivating c.in_ok-root.root)) (each_made (λ v. just (variable_event c.in_ok-root.root.key v)) c.as_slice.result.now))

  is_started : (es : List Event) → IsStateOf es c.args.state.now → made es ≡ started_of (partition_of c.args.state.now) c.args.self.message.now c.args.self.process.now es
  is_started es is =
      started_as (partition_of c.args.state.now) es c.args.self.message.now c.args.self.process.now c.next_key-key.result c.in-Some.definition c.in_ok-root.root c.as_slice.result.now
      (search rules) (sym (c.may_start.ensures es is) ∙ search rules) (c.next_key-key.ensures es is) (search rules) c.as_slice.ensures.value

pub returns-clause-ok : goal.returns-clause-ok
returns-clause-ok c =
    on_ok_weaker c.put.result
    (same_put (made c) (started_of (partition_of c.args.state.now) c.args.self.message.now c.args.self.process.now) c.args.state.now c.put.new.state c.args.out.now c.put.new.out (is_started c))
    c.put.ensures.ok

pub returns-clause-misfit : goal.returns-clause-misfit
returns-clause-misfit c = λ misfit. same_cant (made c) (started_of (partition_of c.args.state.now) c.args.self.message.now c.args.self.process.now) c.args.state.now (is_started c) (c.put.ensures.misfit misfit)

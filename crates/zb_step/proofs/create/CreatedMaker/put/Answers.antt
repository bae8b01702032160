use Rattle.std.proofs.Common.{◌≡◌, List}
use Rattle.std.proofs.lemmas.Result.{on_ok_weaker}
use Rattle.zb_model.specs.declared.record.Event.{Event}
use Rattle.zb_model.specs.declared.record.Event.TheVariants as events
use Rattle.zb_views.specs.Definitions.{definitions}
use Rattle.zb_rules.specs.Create.{variable_event, created}
use Rattle.zb_rules.specs.Making.{Making, just, and_then, each_made}
use Rattle.zb_state.specs.State.{partition_of, IsStateOf}
use Rattle.zb_follow.proofs.MakerLemmas.{same_cant, same_put}
use Rattle.zb_step.proofs.OwnLemmas.{created_as}
use Rattle.zb_step.proofs.create.CreatedMaker.put.Goals as goal

module _ (c : goal.After-put) where
  abbrev made : Making
  made = and_then (just (events.ProcessInstanceCreationCreated (record { key = c.next_key-key.result; definition = c.in-Some.definition })))
      (and_then (just (events.ElementActivating c.in_ok-root.root)) (each_made (λ v. just (variable_event c.in_ok-root.root.key v)) c.as_slice.result.now))

  is_created : (es : List Event) → IsStateOf es c.args.state.now → made es ≡ created (partition_of c.args.state.now) c.args.self.0.now es
  is_created es is =
      let found = rw c.as_str-process.ensures at (rw c.in-Some.is at (c.definition_for.ensures (definitions es) (c.definitions.ensures es is))) in
      let root = rw c.as_str-process.ensures at c.in_ok-root.ensures in
      created_as (partition_of c.args.state.now) es c.args.self.0.now c.next_key-key.result c.in-Some.definition c.in_ok-root.root c.as_slice.result.now found (c.next_key-key.ensures es is) root c.as_slice.ensures.value

pub returns-clause-ok : goal.returns-clause-ok
returns-clause-ok c =
    on_ok_weaker c.put.result
    (same_put (made c) (created (partition_of c.args.state.now) c.args.self.0.now) c.args.state.now c.put.new.state c.args.out.now c.put.new.out (is_created c))
    c.put.ensures.ok

pub returns-clause-misfit : goal.returns-clause-misfit
returns-clause-misfit c = λ misfit. same_cant (made c) (created (partition_of c.args.state.now) c.args.self.0.now) c.args.state.now (is_created c) (c.put.ensures.misfit misfit)

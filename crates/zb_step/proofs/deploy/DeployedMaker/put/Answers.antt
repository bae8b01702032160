use Rattle.std.proofs.Common.{◌≡◌, ◌∙◌, List, IsTrue, subst, sym}
use Rattle.std.proofs.lemmas.Result.{on_ok_weaker}
use Rattle.zb_process.specs.declared.model.Model.{Model}
use Rattle.zb_faults.specs.Faults.{is_well_formed}
use Rattle.zb_model.specs.declared.record.Event.{Event}
use Rattle.zb_model.specs.declared.record.Event.TheVariants as events
use Rattle.zb_rules.specs.Deploy.{deployment_of, sent_to, deployed}
use Rattle.zb_rules.specs.Making.{Making, just, and_then, each_made}
use Rattle.zb_state.specs.State.{partition_of, IsStateOf}
use Rattle.zb_follow.proofs.MakerLemmas.{same_cant, same_put}
use Rattle.zb_step.proofs.OwnLemmas.{deployed_as}
use Rattle.zb_step.proofs.deploy.DeployedMaker.put.Goals as goal

module _ (c : goal.After-drop-others) where
  abbrev made : Making
  made =
      let p = partition_of c.args.state.now in
      let key = c.in_ok-made.made.key in
      and_then (just (events.ProcessCreated c.in_ok-made.made)) (and_then (deployment_of p key) (each_made (λ k. just (sent_to key k)) c.as_slice-things.result.now))

  is_deployed : (es : List Event) → IsStateOf es c.args.state.now → made es ≡ deployed (partition_of c.args.state.now) c.args.self.partitions c.args.self.model.now es
  is_deployed es is = deployed_as (partition_of c.args.state.now) c.args.self.partitions es c.args.self.model.now c.in_ok-made.made c.as_slice-things.result.now (c.in_ok-made.ensures.made es is) (c.as_slice-things.ensures.value ∙ c.in_ok-others.ensures)

pub returns-clause-ok : goal.returns-clause-ok
returns-clause-ok c =
    on_ok_weaker c.put.result
    (same_put (made c) (deployed (partition_of c.args.state.now) c.args.self.partitions c.args.self.model.now) c.args.state.now c.put.new.state c.args.out.now c.put.new.out (is_deployed c))
    c.put.ensures.ok

pub returns-clause-misfit : goal.returns-clause-misfit
returns-clause-misfit c = λ misfit. same_cant (made c) (deployed (partition_of c.args.state.now) c.args.self.partitions c.args.self.model.now) c.args.state.now (is_deployed c) (c.put.ensures.misfit misfit)

pub invariant_of-made : goal.invariant_of-made
invariant_of-made c = record { sound = subst (λ (m : Model). IsTrue (is_well_formed m)) (sym c.in_ok-made.ensures.model) c.args.self.sound }

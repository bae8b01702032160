use Rattle.std.proofs.Common.{List, ap}
use Rattle.std.proofs.lemmas.Result.{on_ok_weaker}
use Rattle.zb_base.specs.declared.vars.Variable.{Variable}
use Rattle.zb_model.specs.declared.record.Event.TheVariants as events
use Rattle.zb_rules.specs.Making.{Making, just, and_then}
use Rattle.zb_rules.specs.Update.{set_each, updated}
use Rattle.zb_follow.proofs.MakerLemmas.{same_put}
use Rattle.zb_step.proofs.update.UpdatedMaker.put.Goals as goal

pub returns-clause-ok : goal.returns-clause-ok
returns-clause-ok c =
    let command = c.args.self.0.now in
    let made : List Variable → Making = λ vs. and_then (set_each command.local command.scope vs) (just (events.VariableDocumentUpdated command.scope)) in
    on_ok_weaker c.put.result
    (same_put (made c.as_slice-things.result.now) (updated command) c.args.state.now c.put.new.state c.args.out.now c.put.new.out
    (λ es is. ap (λ (vs : List Variable). made vs es) c.as_slice-things.ensures.value))
    c.put.ensures.ok

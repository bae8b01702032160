use Rattle.std.proofs.Common.{◌≡◌, Option, None, sym, ◌∙◌, subst}
use Rattle.std.specs.Prelude.{IfOk}
use Rattle.zb_model.specs.declared.record.Rejection.{Rejection}
use Rattle.zb_rules.specs.Reason.{reason_for}
use Rattle.zb_rules.specs.Step.{IsAcceptance, IsOutcomeBy}
use Rattle.zb_state.specs.State.{partition_of}
use Rattle.zb_step.proofs.outcome.outcome_of.Goals as goal

pub returns-in-None-clause-outcome : goal.returns-in-None-clause-outcome
returns-in-None-clause-outcome c = λ es is.
    let p = partition_of c.args.state.now in
    let n = c.args.partitions in
    let Leads : Option Rejection → Type 0 = λ r. IfOk c.run.result (λ outcome. IsOutcomeBy r outcome (IsAcceptance p n c.args.moment es c.args.command.now outcome)) in
    let none : reason_for es c.args.moment c.args.command.now ≡ None = sym (c.in_ok-rejection.ensures.reason es is) ∙ c.in-None.is in
    subst Leads (sym none) (c.run.ensures.acceptance es is)

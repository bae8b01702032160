use Rattle.std.proofs.Common.{ℕ, List, ◌++◌, [], IsTrue, sym, subst, rules}
use Rattle.zb_model.specs.declared.record.Event.{Event}
use Rattle.zb_model.specs.declared.record.Outcome.TheVariants as outcomes
use Rattle.zb_rules.specs.Applies.{all_apply}
use Rattle.zb_rules.specs.Step.{IsAcceptance}
use Rattle.zb_rules.proofs.ProgressLaws.{own_legal}
use Rattle.zb_state.specs.State.{partition_of}
use Rattle.zb_follow.specs.Settled.{SettlesTo}
use Rattle.zb_step.proofs.OutcomeLemmas.{acceptance_of, behind_apply}
use Rattle.zb_step.proofs.outcome.run.Goals as goal

pub returns-clause-acceptance : goal.returns-clause-acceptance
returns-clause-acceptance c = λ es was.
    let p = partition_of c.args.state.now in
    let n = c.args.own.partitions in
    let own = c.emit.new.out in
    let made = c.settle.new.out in
    let told = c.in_ok-emit.ensures in
    let is = told.state es was in
    let Settles : ℕ → Type 0 = λ q. SettlesTo q c.args.moment es own made in
    let Applies : ℕ → Type 0 = λ q. IsTrue (all_apply q [] (es ++ own)) in
    let Accepts : List Event → Type 0 = λ l. IsAcceptance p n c.args.moment es c.args.own.command.now (outcomes.Accepted l) in
    let settled = subst Settles c.emit.ensures.place (c.in_ok-settle.ensures.settled es is) in
    let applied = behind_apply p es own (subst Applies c.emit.ensures.place is.applied) in
    let is_own = told.own es was in
    subst Accepts (sym c.events.ensures) (acceptance_of p n c.args.moment es own made c.args.own.command.now is_own applied (own_legal p n es c.args.moment c.args.own.command.now own applied is_own) settled)

pub returns-in_err-settle-clause-misfit : goal.returns-in_err-settle-clause-misfit
returns-in_err-settle-clause-misfit c = λ misfit es is.
    c.in_err-settle.ensures.misfit (search rules) (es ++ c.emit.new.out) (c.in_ok-emit.ensures.state es is)

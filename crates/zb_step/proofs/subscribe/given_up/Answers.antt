use Rattle.std.proofs.Common.{List, ℕ, Option, Some, ap, ◌∙◌}
use Rattle.std.proofs.lemmas.Result.{IfOk-weaker}
use Rattle.zb_step.specs.declared.correlate.PassedTo.{PassedTo}
use Rattle.zb_step.proofs.SubscribeLemmas.{given_up_as}
use Rattle.zb_step.proofs.subscribe.given_up.Goals as goal

-- what passes on, of a process
abbrev passing_of : ℕ → List ℕ → Option PassedTo
passing_of message process = Some (record { message = message; process = process })

pub returns-in-Some-unkept : goal.returns-in-Some-unkept
returns-in-Some-unkept c = λ es is.
    let message = c.in-Some-unkept.message in
    IfOk-weaker c.passing.result _ _
    (λ next passes. given_up_as es c.args.state.now is c.args.command.now c.in-Some.subscription.now message next (c.in-Some.ensures es is) c.in-Some-unkept.ensures (passes ∙ ap (passing_of message) c.as_str.ensures))
    c.passing.ensures
